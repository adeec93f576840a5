use Rattle.std.proofs.Common.{◌≡◌, length}
use Rattle.qrcode_payloads.specs.Texts.{long_refusal}
use Rattle.qrcode_payloads.proofs.texts.refuse_long.Given as goal

abbrev pub invariant-loop-rest : goal.invariant-loop-rest
invariant-loop-rest g l = long_refusal l.rest (g.G.FieldSource.fields l.given) ≡ long_refusal l.fields (g.G.FieldSource.fields l.given)

abbrev pub decreases-loop-rest : goal.decreases-loop-rest
decreases-loop-rest g l = length l.rest
