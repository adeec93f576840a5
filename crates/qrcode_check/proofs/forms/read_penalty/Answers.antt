use Rattle.std.proofs.Common.{length, false, ap, ◌∙◌}
use Rattle.qrcode_reader.specs.declared.positions.Position.TheVariants.{Transposed}
use Rattle.qrcode_reader.proofs.Positioned.{length-seen}
use Rattle.qrcode_check.proofs.forms.read_penalty.Goals as goal

pub row_forms-requires-2-clause-square : goal.row_forms-requires-2-clause-square
row_forms-requires-2-clause-square c =
    ap length (c.deref.ensures.value ∙ c.in_ok-columns.ensures) ∙ length-seen c.side-width.result Transposed false c.args.modules.now

pub row_forms-requires-4-clause-square : goal.row_forms-requires-4-clause-square
row_forms-requires-4-clause-square c =
    ap length (c.deref-2.ensures.value ∙ c.in_ok-columns.ensures) ∙ length-seen c.side-width.result Transposed false c.args.modules.now
