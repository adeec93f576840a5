use Rattle.std.proofs.Common.{◌≡◌, ◌+◌, ◌≤◌, length}
use Rattle.qrcode_damage.specs.Damage.{pattern_places}
use Rattle.qrcode_damage.proofs.Ahead.{ahead_of}
use Rattle.qrcode_damage.proofs.patterns.pattern_count.Given as goal

abbrev pub invariant-loop-i : goal.invariant-loop-i
invariant-loop-i l = record {
  counted : l.count + ahead_of l.fn.version l.i ≡ length (pattern_places l.fn.version);
  few : l.count ≤ l.i;
}
