use Rattle.std.proofs.Common.{ap, sym, fold, ◌∙◌}
use Rattle.qrcode_layout.specs.Figures.{alignments, version_figures}
use Rattle.qrcode_symbol.specs.Patterned.{with_figure}
use Rattle.qrcode_symbol.proofs.Patterned.{micro_drawn, normal_drawn}
use Rattle.qrcode_symbol.proofs.canvas.drawing.draw_patterns.Goals as goal

pub returns-then-is_micro : goal.returns-then-is_micro
returns-then-is_micro c =
    let v = c.args.version in
    let old = c.args.modules.now in
    c.draw_figures.ensures ∙ ap (fold (with_figure v) old) c.micro_figures.ensures
    ∙ micro_drawn v old c.side-width.result (sym c.is_micro.ensures ∙ c.if-is_micro.true) c.side-width.ensures.value c.requires.square

pub returns : goal.returns
returns c =
    let v = c.args.version in
    let old = c.args.modules.now in
    c.draw_alignments.ensures
    ∙ ap (λ m. fold (with_figure v) m (alignments v)) (c.draw_version_words.ensures ∙ ap (λ m. fold (with_figure v) m (version_figures c.side-width.result)) (c.draw_figures-2.ensures ∙ ap (fold (with_figure v) old) c.normal_figures.ensures))
    ∙ normal_drawn v old c.side-width.result (sym c.is_micro.ensures ∙ c.if-is_micro.false) c.side-width.ensures.value c.requires.square
