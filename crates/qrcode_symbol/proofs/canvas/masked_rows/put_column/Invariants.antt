use Rattle.std.proofs.Common.{map}
use Rattle.qrcode_types.specs.Bits.{has_bit}
use Rattle.qrcode_symbol.specs.Deciding.{IsPutInColumn}
use Rattle.qrcode_symbol.proofs.canvas.masked_rows.put_column.Given as goal

abbrev pub invariant-loop-i : goal.invariant-loop-i
invariant-loop-i g l = IsPutInColumn (map g.R.PackedRow.bits l.initial.rows) l.first l.i (has_bit l.bits) (map g.R.PackedRow.bits l.rows)
