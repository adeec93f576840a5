use Rattle.std.proofs.Common.{◌≡◌, ℕ, ◌+◌, List, not, true, false, cond, ap, ap₂, sym, map, take, get_or, fold, length, subst, ◌∙◌, IsTrue, arith}
use Rattle.std.specs.List.{filter}
use Rattle.qrcode_types.specs.Versions.{side}
use Rattle.qrcode_layout.specs.declared.figures.Figure.{Figure}
use Rattle.qrcode_layout.specs.Figures.{alignment, is_centre_inside, is_corner_centre, fits}
use Rattle.qrcode_layout.proofs.Agreements.{all_at}
use Rattle.qrcode_layout.proofs.FigurePlaces.{alignment_fits}
use Rattle.qrcode_symbol.proofs.Patterned.{column_more}
use Rattle.qrcode_reader.specs.Figures.{wrong_in}
use Rattle.qrcode_check.proofs.Figures.{few_centres}
use Rattle.qrcode_check.proofs.modules.wrong_in_alignment_row.Goals as goal
use Rattle.qrcode_check.proofs.modules.wrong_in_alignment_row.Goals.{then-not-is_corner_centre, else-not-is_corner_centre}

pub wrong_in-count-requires-clause-fits : goal.wrong_in-count-requires-clause-fits
wrong_in-count-requires-clause-fits c =
    let v = c.args.version in
    let cs = c.centres-a-items.result.now in
    let inside = all_at (is_centre_inside (side v)) cs c.loop-a.a-index 0 c.centres-a-items.ensures.inside (omega arith) in
    subst (λ (f : Figure). IsTrue (fits v f)) (sym c.alignment.ensures) (alignment_fits v (get_or cs c.loop-a.a-index 0) c.args.b inside c.requires.inside)

pub loop-a-preserved : goal.loop-a-preserved
loop-a-preserved c =
    let v = c.args.version in
    let b = c.args.b in
    let add = λ (n : ℕ) (f : Figure). n + wrong_in v c.args.modules.now f in
    let cs = c.centres-a-items.result.now in
    let i = c.loop-a.a-index in
    let a = get_or cs i 0 in
    let test = λ (a : ℕ). not (is_corner_centre (side v) a b) in
    let all = λ (n : ℕ) (l : List ℕ). fold add 0 (map (λ a. alignment a b) (filter test (take n l))) in
    let e = c.centres-a-items.ensures.value in
    let before : c.loop-a.count ≡ all i cs = subst (λ (l : List ℕ). c.loop-a.count ≡ all i l) (sym e) c.loop-a.invariant.value in
    let more = column_more add 0 (λ a. alignment a b) test cs i 0 (omega arith) in
    let corner : c.is_corner_centre.result ≡ is_corner_centre (side v) a b = c.is_corner_centre.ensures ∙ ap (λ w. is_corner_centre w a b) c.side-width.ensures.value in
    elim c.if-not-is_corner_centre.branch [
      | then-not-is_corner_centre w ↦
          let kept : test a ≡ true = ap not (sym corner ∙ w.if-not-is_corner_centre.true) in
          record {
            value = w.count-is ∙ subst (λ (l : List ℕ). c.loop-a.count + w.wrong_in-count.result ≡ all (i + 1) l) e
                (ap₂ (λ (x y : ℕ). x + y) before (w.wrong_in-count.ensures.value ∙ ap (wrong_in v c.args.modules.now) w.alignment.ensures) ∙ sym (more ∙ ap (λ t. cond t (add (all i cs) (alignment a b)) (all i cs)) kept));
            at_most = omega (arith, w.count-is, w.wrong_in-count.ensures.at_most, c.loop-a.invariant.at_most);
          }
      | else-not-is_corner_centre w ↦
          let left : test a ≡ false = ap not (sym corner ∙ w.if-not-is_corner_centre.false) in
          record {
            value = w.count-is ∙ subst (λ (l : List ℕ). c.loop-a.count ≡ all (i + 1) l) e (before ∙ sym (more ∙ ap (λ t. cond t (add (all i cs) (alignment a b)) (all i cs)) left));
            at_most = omega (arith, w.count-is, c.loop-a.invariant.at_most);
          }
    ]

pub overflow_add-count : goal.overflow_add-count
overflow_add-count c =
    omega (arith, few_centres c.args.version c.requires.valid, ap length c.centres-a-items.ensures.value, c.loop-a.invariant.at_most, c.wrong_in-count.ensures.at_most)

pub returns-clause-at_most : goal.returns-clause-at_most
returns-clause-at_most c = omega (arith, few_centres c.args.version c.requires.valid, ap length c.centres-a-items.ensures.value, c.loop-a.invariant.at_most)
