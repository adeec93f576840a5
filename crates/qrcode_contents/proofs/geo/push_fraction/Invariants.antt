use Rattle.std.proofs.Common.{◌≡◌, ◌<◌, ◌-◌, ◌^◌, ◌++◌, string_bytes}
use Rattle.qrcode_contents.specs.Geo.{fraction_digits}
use Rattle.qrcode_contents.proofs.geo.push_fraction.Given as goal

abbrev pub invariant-loop-index : goal.invariant-loop-index
invariant-loop-index l = record {
  below : l.rest < 10 ^ (6 - l.index);
  says : string_bytes l.text ++ fraction_digits (6 - l.index) l.rest ≡ string_bytes l.initial.text ++ fraction_digits 6 l.fn.millionths;
}
