use Rattle.std.proofs.Common.{◌≡◌, length}
use Rattle.qrcode_scan.specs.Several.{behind_plain}
use Rattle.qrcode_scan.proofs.several.behind_plain.Given as goal

abbrev pub invariant-loop-rest : goal.invariant-loop-rest
invariant-loop-rest l = behind_plain l.left l.rest ≡ behind_plain l.fn.count l.fn.bytes

abbrev pub decreases-loop-rest : goal.decreases-loop-rest
decreases-loop-rest l = length l.rest
