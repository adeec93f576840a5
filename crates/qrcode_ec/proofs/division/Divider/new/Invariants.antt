use Rattle.std.proofs.Common.{length, ◌≡◌}
use Rattle.qrcode_ec.specs.Dividing.{AreMultiples}
use Rattle.qrcode_ec.proofs.division.Divider.new.Given as goal

abbrev pub invariant-loop-k : goal.invariant-loop-k
invariant-loop-k l = record {
  low_long : length l.low ≡ 16;
  high_long : length l.high ≡ 16;
  units : AreMultiples l.generator 1 l.k l.low;
  sixteens : AreMultiples l.generator 16 l.k l.high;
}
