use Rattle.std.proofs.Common.{◌≡◌, ℕ, ◌+◌, List, not, true, false, cond, ap, ap₂, sym, map, take, get_or, fold, subst, ◌∙◌, IsTrue, arith}
use Rattle.std.specs.List.{filter}
use Rattle.qrcode_types.specs.Versions.{side}
use Rattle.qrcode_layout.specs.declared.figures.Figure.{Figure}
use Rattle.qrcode_layout.specs.Figures.{alignment, is_centre_inside, is_corner_centre, fits}
use Rattle.qrcode_layout.proofs.Agreements.{all_at}
use Rattle.qrcode_layout.proofs.FigurePlaces.{alignment_fits}
use Rattle.qrcode_symbol.specs.Patterned.{with_figure}
use Rattle.qrcode_symbol.proofs.Patterned.{column_more}
use Rattle.qrcode_symbol.proofs.canvas.drawing.draw_alignment_row.Goals as goal
use Rattle.qrcode_symbol.proofs.canvas.drawing.draw_alignment_row.Goals.{then-not-is_corner_centre, else-not-is_corner_centre}

pub draw_figure-requires-clause-fits : goal.draw_figure-requires-clause-fits
draw_figure-requires-clause-fits c =
    let v = c.args.version in
    let cs = c.centres-a-items.result.now in
    let inside = all_at (is_centre_inside (side v)) cs c.loop-a.a-index 0 c.centres-a-items.ensures.inside (omega arith) in
    subst (λ (f : Figure). IsTrue (fits v f)) (sym c.alignment.ensures) (alignment_fits v (get_or cs c.loop-a.a-index 0) c.args.b inside c.requires.inside)

pub loop-a-preserved : goal.loop-a-preserved
loop-a-preserved c =
    let v = c.args.version in
    let b = c.args.b in
    let draw = with_figure v in
    let cs = c.centres-a-items.result.now in
    let old = c.args.modules.now in
    let i = c.loop-a.a-index in
    let a = get_or cs i 0 in
    let test = λ (a : ℕ). not (is_corner_centre (side v) a b) in
    let all = λ (n : ℕ) (l : List ℕ). fold draw old (map (λ a. alignment a b) (filter test (take n l))) in
    let e = c.centres-a-items.ensures.value in
    let before : c.loop-a.modules ≡ all i cs = subst (λ (l : List ℕ). c.loop-a.modules ≡ all i l) (sym e) c.loop-a.invariant in
    let more = column_more draw old (λ a. alignment a b) test cs i 0 (omega arith) in
    let corner : c.is_corner_centre.result ≡ is_corner_centre (side v) a b = c.is_corner_centre.ensures ∙ ap (λ w. is_corner_centre w a b) c.side-width.ensures.value in
    elim c.if-not-is_corner_centre.branch [
      | then-not-is_corner_centre w ↦
          let drawn : test a ≡ true = ap not (sym corner ∙ w.if-not-is_corner_centre.true) in
          rw w.modules-is
          (subst (λ (l : List ℕ). w.draw_figure.new.modules ≡ all (i + 1) l) e
          (w.draw_figure.ensures ∙ ap₂ draw before w.alignment.ensures ∙ sym (more ∙ ap (λ t. cond t (draw (all i cs) (alignment a b)) (all i cs)) drawn)))
      | else-not-is_corner_centre w ↦
          let left : test a ≡ false = ap not (sym corner ∙ w.if-not-is_corner_centre.false) in
          rw w.modules-is
          (subst (λ (l : List ℕ). c.loop-a.modules ≡ all (i + 1) l) e
          (before ∙ sym (more ∙ ap (λ t. cond t (draw (all i cs) (alignment a b)) (all i cs)) left)))
    ]
