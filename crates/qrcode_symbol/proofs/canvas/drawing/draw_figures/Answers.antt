use Rattle.std.proofs.Common.{arith}
use Rattle.qrcode_layout.specs.Figures.{fits}
use Rattle.qrcode_layout.proofs.Agreements.{all_at}
use Rattle.qrcode_symbol.proofs.canvas.drawing.draw_figures.Goals as goal

pub draw_figure-requires-clause-fits : goal.draw_figure-requires-clause-fits
draw_figure-requires-clause-fits c = all_at (fits c.args.version) c.args.figures.now c.loop-figure.figure-index _ c.requires.fits (omega arith)
