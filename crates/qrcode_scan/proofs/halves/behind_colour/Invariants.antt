use Rattle.std.proofs.Common.{◌≡◌, ◌≤◌, length}
use Rattle.qrcode_scan.specs.Halves.{behind_colour}
use Rattle.qrcode_scan.proofs.halves.behind_colour.Given as goal

abbrev pub invariant-loop-rest : goal.invariant-loop-rest
invariant-loop-rest l = record {
  same : behind_colour l.rest ≡ behind_colour l.fn.text;
  at_most : length l.rest ≤ length l.fn.text;
}

abbrev pub decreases-loop-rest : goal.decreases-loop-rest
decreases-loop-rest l = length l.rest
