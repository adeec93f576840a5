use Rattle.std.proofs.Common.{◌≡◌, length, map}
use Rattle.qrcode_contents.specs.fields.Refusals.{first_refusal, refused_if}
use Rattle.qrcode_contents.proofs.fields.refusals.refuse_first.Given as goal

abbrev pub invariant-loop-rest : goal.invariant-loop-rest
invariant-loop-rest l =
    first_refusal (map (λ check. refused_if check.0 check.1 check.2) l.rest)
    ≡ first_refusal (map (λ check. refused_if check.0 check.1 check.2) l.checks)

abbrev pub decreases-loop-rest : goal.decreases-loop-rest
decreases-loop-rest l = length l.rest
