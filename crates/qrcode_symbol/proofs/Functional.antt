-- Which places the patterns on a new canvas leave empty.
use Rattle.std.proofs.Common.{◌≡◌, ℕ, ◌+◌, ◌*◌, ◌<◌, Bool, true, not, ◌||◌, length, get_or, arith, ap, refl, ◌∙◌, Option, Some, None, is_some, IsTrue, ◌↔◌, slice_get}
use Rattle.std.proofs.lemmas.Option.{slice_get-get_or}
use Rattle.std.proofs.lemmas.Nat.{mul-add-lt}
use Rattle.std.proofs.lemmas.Bool.Decides.{nat_tests}
use Rattle.qrcode_types.specs.Versions.{side}
use Rattle.qrcode_types.specs.declared.types.Version.{Version}
use Rattle.qrcode_types.specs.declared.types.Color.{Color}
use Rattle.qrcode_types.specs.declared.types.Color.TheVariants.{Light}
use Rattle.qrcode_layout.specs.Patterns.{pattern, format_index, is_functional_place}
use Rattle.qrcode_symbol.specs.Canvas.{pattern_module, with_patterns, blank, is_empty}
use Rattle.qrcode_symbol.specs.Patterned.{IsDrawn}
use Rattle.qrcode_symbol.specs.declared.canvas.Module.{Module}
use Rattle.qrcode_symbol.specs.declared.canvas.Module.TheVariants.{Empty, Masked}
use Rattle.qrcode_symbol.proofs.Mapped.{length_mapped, mapped_place, blank_at}

pub length_patterned : (v : Version) → length (with_patterns v (blank v)) ≡ side v * side v
unfolding with_patterns
length_patterned v = length_mapped v (pattern_module v) (blank v)

-- a module of a new canvas with its patterns
pub patterned_place : (v : Version) (x y : ℕ) → x < side v → y < side v → get_or (with_patterns v (blank v)) (y * side v + x) Empty ≡ pattern_module v x y Empty
unfolding with_patterns
patterned_place v x y xl yl = mapped_place v (pattern_module v) (blank v) x y xl yl ∙ ap (pattern_module v x y) (blank_at (side v * side v) (y * side v + x))

-- it is empty exactly if no pattern and no format word covers the place
pub emptiness : (v : Version) (x y : ℕ) → (is_functional_place v x y ≡ true) ↔ (pattern_module v x y Empty ≡ Empty → ⊥)
unfolding is_functional_place
emptiness v x y = by_cases (pattern v x y) (format_index v x y) where
  by_cases : (p : Option Color) (f : Option ℕ) → ((is_some p || is_some f) ≡ true) ↔ (elim p as (λ _. Module) [ Some c ↦ Masked c | None ↦ elim f as (λ _. Module) [ Some i ↦ Masked Light | None ↦ Empty ] ] ≡ Empty → ⊥)
  by_cases (Some c) f = ((λ t e. cc), (λ h. refl))
  by_cases None (Some i) = ((λ t e. cc), (λ h. refl))
  by_cases None None = ((λ t. cc), (λ h. absurd (h refl)))

pub drawn_there : (v : Version) (x y : ℕ) (b : Bool) → x < side v → y < side v → b ≡ is_functional_place v x y → IsTrue b ↔ IsDrawn v x y
drawn_there v x y b xl yl e =
    let inside : y * side v + x < side v * side v = mul-add-lt y (side v) x (side v) yl xl in
    let there : slice_get (with_patterns v (blank v)) (y * side v + x) ≡ Some (pattern_module v x y Empty) =
    slice_get-get_or (with_patterns v (blank v)) (y * side v + x) Empty (omega (arith, length_patterned v)) ∙ ap Some (patterned_place v x y xl yl) in
    rw (there, e) (emptiness v x y)

-- `emptiness` as a test
pub empty_module : (v : Version) (x y : ℕ) → is_empty (pattern_module v x y Empty) ≡ not (is_functional_place v x y)
unfolding is_functional_place
empty_module v x y = by_cases (pattern v x y) (format_index v x y) where
  by_cases : (p : Option Color) (f : Option ℕ) → is_empty (elim p as (λ _. Module) [ Some c ↦ Masked c | None ↦ elim f as (λ _. Module) [ Some i ↦ Masked Light | None ↦ Empty ] ]) ≡ not (is_some p || is_some f)
  by_cases p f = grind (arith, nat_tests)
