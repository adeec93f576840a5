use Rattle.std.proofs.Common.{◌≡◌, ◌≤◌, false, length}
use Rattle.qrcode_scan.specs.Heads.{after_space, digits_from}
use Rattle.qrcode_scan.proofs.heads.number.Given as goal

abbrev pub invariant-loop-rest : goal.invariant-loop-rest
invariant-loop-rest l = (digits_from l.number l.rest ≡ digits_from 0 (after_space false l.fn.bytes)) × (l.number ≤ 65535)

abbrev pub decreases-loop-rest : goal.decreases-loop-rest
decreases-loop-rest l = length l.rest
