use Rattle.qrcode_symbol.specs.Patterned.{IsPartDrawn}
use Rattle.qrcode_symbol.proofs.canvas.drawing.draw_figure.Given as goal

abbrev pub invariant-loop-row : goal.invariant-loop-row
invariant-loop-row l = IsPartDrawn l.version l.figure 0 l.row l.figure.across l.initial.modules l.modules
