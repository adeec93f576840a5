use Rattle.std.proofs.Common.{◌≡◌, ℕ, ◌+◌, List, ap, sym, take, get_or, fold, subst, ◌∙◌, arith}
use Rattle.std.specs.List.{flat_map}
use Rattle.qrcode_types.specs.Versions.{side}
use Rattle.qrcode_layout.specs.Figures.{alignment_row, is_centre_inside}
use Rattle.qrcode_layout.proofs.Agreements.{all_at}
use Rattle.qrcode_symbol.specs.Patterned.{with_figure}
use Rattle.qrcode_symbol.proofs.Patterned.{row_more}
use Rattle.qrcode_symbol.proofs.canvas.drawing.draw_alignments.Goals as goal

pub draw_alignment_row-requires-clause-inside : goal.draw_alignment_row-requires-clause-inside
draw_alignment_row-requires-clause-inside c =
    all_at (is_centre_inside (side c.args.version)) c.centres-b-items.result.now c.loop-b.b-index _ c.centres-b-items.ensures.inside (omega arith)

pub loop-b-preserved : goal.loop-b-preserved
loop-b-preserved c =
    let v = c.args.version in
    let draw = with_figure v in
    let cs = c.centres-b-items.result.now in
    let old = c.args.modules.now in
    let i = c.loop-b.b-index in
    let e = c.centres-b-items.ensures.value in
    let before = subst (λ (l : List ℕ). c.loop-b.modules ≡ fold draw old (flat_map (alignment_row v) (take i l))) (sym e) c.loop-b.invariant in
    let more = row_more draw old (alignment_row v) cs i 0 (omega arith) in
    subst (λ (l : List ℕ). c.draw_alignment_row.new.modules ≡ fold draw old (flat_map (alignment_row v) (take (i + 1) l))) e
    (c.draw_alignment_row.ensures ∙ ap (λ m. fold draw m (alignment_row v (get_or cs i 0))) before ∙ sym more)
