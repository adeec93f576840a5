use Rattle.qrcode_scan.specs.Several.{behind_bits, behind_figures, behind_greys}
use Rattle.qrcode_scan.proofs.Split.{cut_as, cut_behind, figures_end, bits_end, greys_end}
use Rattle.qrcode_scan.proofs.several.behind_picture.Goals as goal

pub returns-in-80-clause-cut : goal.returns-in-80-clause-cut
returns-in-80-clause-cut c =
    let file = c.args.file.now in
    cut_as file (behind_figures file) c.behind_figures.result.now c.after_space.result.now (figures_end file) c.behind_figures.ensures c.after_space.ensures

pub returns-in-80-2-clause-cut : goal.returns-in-80-2-clause-cut
returns-in-80-2-clause-cut c =
    let file = c.args.file.now in
    cut_as file (behind_bits file) c.behind_bits.result.now c.after_space-in-80-2.result.now (bits_end file) c.behind_bits.ensures c.after_space-in-80-2.ensures

pub returns-in-80-3-clause-cut : goal.returns-in-80-3-clause-cut
returns-in-80-3-clause-cut c =
    let file = c.args.file.now in
    cut_as file (behind_greys file) c.behind_greys.result.now c.after_space-in-80-3.result.now (greys_end file) c.behind_greys.ensures c.after_space-in-80-3.ensures

pub returns-in_default-clause-cut : goal.returns-in_default-clause-cut
returns-in_default-clause-cut c = cut_behind c.args.file.now
