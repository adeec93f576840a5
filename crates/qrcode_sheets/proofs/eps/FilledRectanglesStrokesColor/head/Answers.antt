use Rattle.std.proofs.Common.{◌∙◌, append_assoc}
use Rattle.qrcode_sheets.proofs.eps.FilledRectanglesStrokesColor.head.Goals as goal

-- The pieces of the text in a row.
pub returns-clause-value : goal.returns-clause-value
returns-clause-value c = c.in_ok-format.ensures.ok ∙ simp (append_assoc, c.in_ok-ground.ensures.value, c.in_ok-ink.ensures.value)
