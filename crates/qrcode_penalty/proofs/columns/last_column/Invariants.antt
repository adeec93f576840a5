use Rattle.qrcode_penalty.proofs.LastColumn.{IsColumnUpTo}
use Rattle.qrcode_penalty.proofs.columns.last_column.Given as goal

abbrev pub invariant-loop-y : goal.invariant-loop-y
invariant-loop-y g l = IsColumnUpTo l.square.rows l.square.width (g.R.PackedRow.bits l.column) l.y
