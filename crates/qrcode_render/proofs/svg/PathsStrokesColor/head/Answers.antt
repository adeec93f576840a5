use Rattle.std.proofs.Common.{◌∙◌, append_assoc}
use Rattle.qrcode_render.specs.Svg.{svg_start}
use Rattle.qrcode_render.proofs.svg.PathsStrokesColor.head.Goals as goal

-- The pieces of the text in a row.
pub returns-clause-value : goal.returns-clause-value
unfolding svg_start
returns-clause-value c = c.in_ok-format.ensures.ok ∙ simp append_assoc
