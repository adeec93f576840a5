use Rattle.qrcode_damage.proofs.Steps.{pair_fits, upwards, downwards}
use Rattle.qrcode_damage.proofs.marks.place.Goals as goal

pub right_column-requires-clause-pair : goal.right_column-requires-clause-pair
right_column-requires-clause-pair c = pair_fits c.args.version c.side-width.result c.args.t c.side-width.ensures.value c.requires.inside

pub returns-then-pair-eq0-clause-value : goal.returns-then-pair-eq0-clause-value
returns-then-pair-eq0-clause-value c = upwards c.args.version c.side-width.result c.args.t c.right_column.result c.side-width.ensures.value c.right_column.ensures.value c.if-pair-eq0.true

pub returns-else-pair-eq0-clause-value : goal.returns-else-pair-eq0-clause-value
returns-else-pair-eq0-clause-value c = downwards c.args.version c.side-width.result c.args.t c.right_column.result c.side-width.ensures.value c.right_column.ensures.value c.if-pair-eq0.false
