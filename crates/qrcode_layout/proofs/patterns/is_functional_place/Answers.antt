use Rattle.std.proofs.Common.{◌≡◌, ◌++◌, nat_le, true, false, ap, sym, refl, ◌∙◌, arith}
use Rattle.std.proofs.lemmas.Bool.Decides.{nat_tests}
use Rattle.qrcode_layout.specs.Figures.{normal_figures, normal_format_figures, version_figures}
use Rattle.qrcode_layout.proofs.FigurePlaces.{any_has, normal_functional}
use Rattle.qrcode_layout.proofs.patterns.is_functional_place.Goals as goal
use Rattle.qrcode_layout.proofs.patterns.is_functional_place.Goals.{else-width-ge45-via-then-width-ge45+else-has_any-2, else-width-ge45-via-else-width-ge45}

pub returns-then-has_any : goal.returns-then-has_any
returns-then-has_any c =
    let w = c.args.width in
    let is = normal_functional c.args.version c.args.x c.args.y w (sym c.is_micro.ensures ∙ c.if-is_micro.false) c.requires.width in
    let first : any_has c.args.x c.args.y (normal_format_figures w ++ normal_figures w) ≡ true =
    ap (any_has c.args.x c.args.y) (sym c.normal_figures.ensures) ∙ sym c.has_any-2.ensures ∙ c.if-has_any.true in
    sym (is ∙ rw first refl)

pub returns-then-has_any-2 : goal.returns-then-has_any-2
returns-then-has_any-2 c =
    let w = c.args.width in
    let is = normal_functional c.args.version c.args.x c.args.y w (sym c.is_micro.ensures ∙ c.if-is_micro.false) c.requires.width in
    let first : any_has c.args.x c.args.y (normal_format_figures w ++ normal_figures w) ≡ false =
    ap (any_has c.args.x c.args.y) (sym c.normal_figures.ensures) ∙ sym c.has_any-2.ensures ∙ c.if-has_any.false in
    let late : nat_le 45 w ≡ true = grind (arith, nat_tests) in
    let words : any_has c.args.x c.args.y (version_figures w) ≡ true =
    rw late (ap (any_has c.args.x c.args.y) (sym c.word_figures.ensures) ∙ sym c.has_any-then-width-ge45.ensures ∙ c.if-has_any-2.true) in
    sym (is ∙ rw (first, words) refl)

pub returns : goal.returns
returns c =
    let w = c.args.width in
    let is = normal_functional c.args.version c.args.x c.args.y w (sym c.is_micro.ensures ∙ c.if-is_micro.false) c.requires.width in
    let first : any_has c.args.x c.args.y (normal_format_figures w ++ normal_figures w) ≡ false =
    ap (any_has c.args.x c.args.y) (sym c.normal_figures.ensures) ∙ sym c.has_any-2.ensures ∙ c.if-has_any.false in
    let words : any_has c.args.x c.args.y (version_figures w) ≡ false =
    elim c.else-width-ge45.branch [
      | else-width-ge45-via-then-width-ge45+else-has_any-2 b ↦
          let late : nat_le 45 w ≡ true = grind (arith, nat_tests) in
          rw late (ap (any_has c.args.x c.args.y) (sym b.word_figures.ensures) ∙ sym b.has_any-then-width-ge45.ensures ∙ b.if-has_any-2.false)
      | else-width-ge45-via-else-width-ge45 b ↦ (let early : nat_le 45 w ≡ false = grind (arith, nat_tests) in rw early refl)
    ] in
    c.is_in_alignment.ensures ∙ sym (is ∙ rw (first, words) refl)
