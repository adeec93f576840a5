use Rattle.std.proofs.Common.{ap, ◌∙◌, append_assoc}
use Rattle.qrcode_sheets.proofs.tspl.head_at.Goals as goal

-- The pieces of the text in a row.
pub returns-clause-value : goal.returns-clause-value
returns-clause-value c = ap (λ v. v.items) c.into_bytes.ensures.value ∙ c.in_ok-format.ensures.ok ∙ simp append_assoc
