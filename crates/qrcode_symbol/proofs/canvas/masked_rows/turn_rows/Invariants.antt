use Rattle.std.proofs.Common.{map}
use Rattle.qrcode_symbol.specs.Masking.{AreTurned}
use Rattle.qrcode_symbol.proofs.canvas.masked_rows.turn_rows.Given as goal

abbrev pub invariant-loop-y : goal.invariant-loop-y
invariant-loop-y g l = AreTurned l.modules.width l.fn.mask l.modules.dark.rows l.modules.free.rows l.y (map g.R.PackedRow.bits l.rows)
