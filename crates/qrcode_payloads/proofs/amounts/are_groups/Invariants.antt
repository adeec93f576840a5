use Rattle.std.proofs.Common.{◌≡◌, length}
use Rattle.qrcode_payloads.specs.Amounts.{are_groups}
use Rattle.qrcode_payloads.proofs.amounts.are_groups.Given as goal

abbrev pub invariant-loop-rest : goal.invariant-loop-rest
invariant-loop-rest l = are_groups l.separator l.rest ≡ are_groups l.separator l.bytes

abbrev pub decreases-loop-rest : goal.decreases-loop-rest
decreases-loop-rest l = length l.rest
