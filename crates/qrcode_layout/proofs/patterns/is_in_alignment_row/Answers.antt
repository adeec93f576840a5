use Rattle.std.proofs.Common.{◌≡◌, ℕ, ◌&&◌, List, not, true, length, take, get_or, ap, sym, subst, refl, ◌∙◌, arith}
use Rattle.std.proofs.Math.Seq.{take-length}
use Rattle.std.proofs.lemmas.List.Folds.{list_any_at}
use Rattle.qrcode_types.specs.Versions.{side}
use Rattle.qrcode_layout.specs.Figures.{has, alignment, centres, is_corner_centre}
use Rattle.qrcode_layout.proofs.FigurePlaces.{in_row, row_has}
use Rattle.qrcode_layout.proofs.patterns.is_in_alignment_row.Goals as goal

pub returns-then-has : goal.returns-then-has
returns-then-has c =
    let v = c.args.version in
    let b = c.args.b in
    let x = c.args.x in
    let y = c.args.y in
    let items = c.centres-a-items.result.now in
    let a = get_or items c.loop-a.a-index 0 in
    let drawn : not (is_corner_centre (side v) a b) ≡ true =
    ap not (ap (λ w. is_corner_centre w a b) (sym c.requires.width) ∙ sym c.is_corner_centre.ensures ∙ c.if-not-is_corner_centre.true) in
    let at : has (alignment a b) x y ≡ true = ap (λ f. has f x y) (sym c.alignment.ensures) ∙ sym c.has.ensures ∙ c.if-has.true in
    let both : (not (is_corner_centre (side v) a b) && has (alignment a b) x y) ≡ true = rw (drawn, at) refl in
    sym (row_has v b x y (centres v)
    ∙ subst (λ (l : List ℕ). in_row v b x y l ≡ true) c.centres-a-items.ensures.value
    (list_any_at (λ a. not (is_corner_centre (side v) a b) && has (alignment a b) x y) items c.loop-a.a-index 0 (omega arith) both))

pub returns : goal.returns
returns c =
    let v = c.args.version in
    let cs = centres v in
    let long : length c.centres-a-items.result.now ≡ length cs = ap length c.centres-a-items.ensures.value in
    let end : c.loop-a.a-index ≡ length cs = omega arith in
    sym (row_has v c.args.b c.args.x c.args.y cs
    ∙ ap (λ l. in_row v c.args.b c.args.x c.args.y l) (sym (ap (λ n. take n cs) end ∙ take-length cs)) ∙ c.loop-a.invariant)
