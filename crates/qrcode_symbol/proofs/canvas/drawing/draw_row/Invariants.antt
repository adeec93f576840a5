use Rattle.std.proofs.Common.{◌+◌}
use Rattle.qrcode_symbol.specs.Patterned.{IsPartDrawn}
use Rattle.qrcode_symbol.proofs.canvas.drawing.draw_row.Given as goal

abbrev pub invariant-loop-column : goal.invariant-loop-column
invariant-loop-column l = IsPartDrawn l.version l.figure l.row (l.row + 1) l.column l.initial.modules l.modules
