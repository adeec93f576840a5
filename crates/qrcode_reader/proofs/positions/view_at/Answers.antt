use Rattle.std.proofs.Common.{◌*◌, ◌∙◌, ap, length}
use Rattle.qrcode_reader.proofs.Positioned.{length-seen}
use Rattle.qrcode_reader.proofs.positions.view_at.Goals as goal

pub has_finders-requires-clause-square : goal.has_finders-requires-clause-square
has_finders-requires-clause-square c = ap length (c.deref.ensures.value ∙ c.in_ok-colors.ensures) ∙ length-seen c.side.result c.nth_position-position.result.0 c.nth_position-position.result.1 c.args.modules.now ∙ ap (λ w. w * w) c.side.ensures.value
