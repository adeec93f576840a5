use Rattle.std.proofs.Common.{◌≡◌, fold, take}
use Rattle.qrcode_symbol.specs.Patterned.{with_figure}
use Rattle.qrcode_symbol.proofs.canvas.drawing.draw_figures.Given as goal

abbrev pub invariant-loop-figure : goal.invariant-loop-figure
invariant-loop-figure l =
    l.modules ≡ fold (with_figure l.version) l.initial.modules (take l.figure-index l.figures)
