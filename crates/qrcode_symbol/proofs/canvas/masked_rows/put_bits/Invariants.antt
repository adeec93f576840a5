use Rattle.std.proofs.Common.{◌-◌}
use Rattle.qrcode_types.specs.Bits.{has_bit}
use Rattle.qrcode_symbol.specs.Deciding.{IsPutInRow}
use Rattle.qrcode_symbol.proofs.canvas.masked_rows.put_bits.Given as goal

abbrev pub invariant-loop-i : goal.invariant-loop-i
invariant-loop-i g l = IsPutInRow (g.R.PackedRow.bits l.fn.row) l.first l.i (λ i. has_bit l.bits (l.count - 1 - i)) (g.R.PackedRow.bits l.line)
