use Rattle.std.specs.Prelude.{chars}
use Rattle.qrcode_charsets.proofs.Leasts.{at_index}
use Rattle.goqlanis_buffers.proofs.Coded.{lacked}
use Rattle.goqlanis_buffers.proofs.charsets.place_lacked.Goals as goal

pub returns-clause-some : goal.returns-clause-some
returns-clause-some c =
    lacked c.args.sets.now (chars c.args.text.now) _ c.lacks.result (c.any_has.ensures.none c.if-any_has.false) (at_index c.args.sets.now 0 _ c.requires) c.lacks.ensures.first
