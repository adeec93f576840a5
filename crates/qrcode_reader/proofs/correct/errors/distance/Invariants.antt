use Rattle.std.proofs.Common.{◌≡◌, ◌+◌, ◌≤◌, drop}
use Rattle.qrcode_ec.specs.Codes.{distance}
use Rattle.qrcode_reader.proofs.correct.errors.distance.Given as goal

abbrev pub invariant-loop-i : goal.invariant-loop-i
invariant-loop-i l = record {
  at_most : l.count ≤ l.i;
  rest : l.count + distance (drop l.i l.first) (drop l.i l.second) ≡ distance l.first l.second;
}
