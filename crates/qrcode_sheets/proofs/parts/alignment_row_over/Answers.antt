use Rattle.std.proofs.Common.{◌≡◌, ℕ, ◌+◌, List, not, true, false, cond, ap, ap₂, sym, map, take, get_or, fold, subst, ◌∙◌, arith}
use Rattle.std.specs.List.{filter}
use Rattle.qrcode_types.specs.Versions.{side}
use Rattle.qrcode_layout.specs.Figures.{alignment, is_corner_centre}
use Rattle.qrcode_sheets.specs.Parts.{part_over}
use Rattle.qrcode_symbol.proofs.Patterned.{column_more}
use Rattle.qrcode_sheets.proofs.parts.alignment_row_over.Goals as goal
use Rattle.qrcode_sheets.proofs.parts.alignment_row_over.Goals.{then-not-is_corner_centre, else-not-is_corner_centre}

pub loop-a-preserved : goal.loop-a-preserved
loop-a-preserved c =
    let v = c.args.version in
    let b = c.args.b in
    let over = part_over c.args.x c.args.y in
    let start = c.args.below in
    let cs = c.centres-a-items.result.now in
    let i = c.loop-a.a-index in
    let a = get_or cs i 0 in
    let test = λ (a : ℕ). not (is_corner_centre (side v) a b) in
    let all = λ (n : ℕ) (l : List ℕ). fold over start (map (λ a. alignment a b) (filter test (take n l))) in
    let e = c.centres-a-items.ensures.value in
    let before : c.loop-a.part ≡ all i cs = subst (λ (l : List ℕ). c.loop-a.part ≡ all i l) (sym e) c.loop-a.invariant in
    let more = column_more over start (λ a. alignment a b) test cs i 0 (omega arith) in
    let corner : c.is_corner_centre.result ≡ is_corner_centre (side v) a b = c.is_corner_centre.ensures ∙ ap (λ w. is_corner_centre w a b) (grind (arith)) in
    elim c.if-not-is_corner_centre.branch [
      | then-not-is_corner_centre w ↦
          let drawn : test a ≡ true = ap not (sym corner ∙ w.if-not-is_corner_centre.true) in
          rw w.part-is
          (subst (λ (l : List ℕ). w.part_over-part.result ≡ all (i + 1) l) e
          (w.part_over-part.ensures ∙ ap₂ over before w.alignment.ensures ∙ sym (more ∙ ap (λ t. cond t (over (all i cs) (alignment a b)) (all i cs)) drawn)))
      | else-not-is_corner_centre w ↦
          let left : test a ≡ false = ap not (sym corner ∙ w.if-not-is_corner_centre.false) in
          rw w.part-is
          (subst (λ (l : List ℕ). c.loop-a.part ≡ all (i + 1) l) e
          (before ∙ sym (more ∙ ap (λ t. cond t (over (all i cs) (alignment a b)) (all i cs)) left)))
    ]
