use Rattle.std.proofs.Common.{◌≡◌, ◌≤◌, take}
use Rattle.qrcode_gs1.specs.Elements.{decimal_value}
use Rattle.qrcode_gs1.proofs.table.number_of.Given as goal

abbrev pub invariant-loop-digit : goal.invariant-loop-digit
invariant-loop-digit l = record {
  none : l.digit-index ≤ 0 → l.number ≤ 0;
  one : l.digit-index ≤ 1 → l.number ≤ 255;
  two : l.digit-index ≤ 2 → l.number ≤ 3000;
  three : l.digit-index ≤ 3 → l.number ≤ 40000;
  four : l.number ≤ 500000;
  value : l.number ≡ decimal_value (take l.digit-index l.digits);
}
