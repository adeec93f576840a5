use Rattle.std.proofs.Common.{◌≡◌, length}
use Rattle.qrcode_check.specs.Segments.{are_comparable}
use Rattle.qrcode_check.proofs.segments.are_comparable.Given as goal

abbrev pub invariant-loop-rest : goal.invariant-loop-rest
invariant-loop-rest l = are_comparable l.rest ≡ are_comparable l.parts

abbrev pub decreases-loop-rest : goal.decreases-loop-rest
decreases-loop-rest l = length l.rest
