use Rattle.std.proofs.Common.{◌≡◌, ℕ, Bool, true, false, not, Option, Some, None, is_some, ◌||◌, refl, sym, ◌∙◌, ap, arith}
use Rattle.std.proofs.lemmas.Bool.Decides.{nat_tests}
use Rattle.qrcode_types.specs.Colors.{is_dark, color_of}
use Rattle.qrcode_types.specs.declared.types.Color.{Color}
use Rattle.qrcode_penalty.specs.Penalty.{same}
use Rattle.qrcode_layout.specs.Masks.{turns, turned_if}
use Rattle.qrcode_layout.specs.Patterns.{pattern, format_index, is_functional_place}
use Rattle.qrcode_symbol.specs.Penalties.{remasked_at}
use Rattle.qrcode_symbol.proofs.Remasking.{remask_of}
use Rattle.qrcode_symbol.proofs.canvas.remasking.remasked_at.Goals as goal

none_of : (o : Option ℕ) → ((i : ℕ) → o ≡ Some i → ⊥) → o ≡ None
none_of None h = refl
none_of (Some i) h = absurd (h i refl)

stays : (word : ℕ) (o : Option ℕ) (p : Option Color) (tk tj : Bool) (c : Color) → o ≡ None → (is_some p || is_some o) ≡ true → c ≡ remask_of word o p tk tj c
stays word o p tk tj c h1 h2 = grind (arith, nat_tests)

is_turned : (word : ℕ) (o : Option ℕ) (p : Option Color) (tk tj : Bool) (c : Color) → o ≡ None → (is_some p || is_some o) ≡ false
    → color_of (turned_if (not (same tk tj)) (is_dark c)) ≡ remask_of word o p tk tj c
is_turned word o p tk tj c h1 h2 = grind (arith, nat_tests)

pub returns-in-Some : goal.returns-in-Some
unfolding remasked_at
returns-in-Some c =
    let layer = c.args.layer in
    let x = c.args.x in
    let y = c.args.y in
    c.color_of.ensures
    ∙ ap (λ (o : Option ℕ). remask_of layer.word o (pattern layer.version x y) (turns c.args.old x y) (turns layer.mask x y) c.args.color) c.in-Some.ensures.value

pub returns-then-is_functional_place : goal.returns-then-is_functional_place
unfolding remasked_at is_functional_place
returns-then-is_functional_place c =
    let layer = c.args.layer in
    let x = c.args.x in
    let y = c.args.y in
    stays layer.word (format_index layer.version x y) (pattern layer.version x y) (turns c.args.old x y) (turns layer.mask x y) c.args.color
    (sym c.format_index.ensures.value ∙ none_of c.format_index.result c.in_default.not-Some)
    (sym c.is_functional_place.ensures ∙ c.if-is_functional_place.true)

pub returns : goal.returns
unfolding remasked_at is_functional_place
returns c =
    let layer = c.args.layer in
    let x = c.args.x in
    let y = c.args.y in
    c.turned.ensures
    ∙ is_turned layer.word (format_index layer.version x y) (pattern layer.version x y) (turns c.args.old x y) (turns layer.mask x y) c.args.color
    (sym c.format_index.ensures.value ∙ none_of c.format_index.result c.in_default.not-Some)
    (sym c.is_functional_place.ensures ∙ c.if-is_functional_place.false)
