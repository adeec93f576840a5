use Rattle.std.proofs.Common.{arith}
use Rattle.qrcode_layout.specs.Figures.{fits}
use Rattle.qrcode_layout.proofs.Agreements.{all_at}
use Rattle.qrcode_reader.proofs.figures.wrong_of.Goals as goal

pub wrong_in-count-requires-clause-fits : goal.wrong_in-count-requires-clause-fits
wrong_in-count-requires-clause-fits c = all_at (fits c.args.version) c.args.figures.now c.loop-figure.figure-index _ c.requires.fits (omega arith)
