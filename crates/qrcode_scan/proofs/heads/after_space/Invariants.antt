use Rattle.std.proofs.Common.{◌≡◌, false, length}
use Rattle.qrcode_scan.specs.Heads.{after_space}
use Rattle.qrcode_scan.proofs.heads.after_space.Given as goal

abbrev pub invariant-loop-rest : goal.invariant-loop-rest
invariant-loop-rest l = after_space l.is_comment l.rest ≡ after_space false l.fn.bytes

abbrev pub decreases-loop-rest : goal.decreases-loop-rest
decreases-loop-rest l = length l.rest
