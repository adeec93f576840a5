-- Squares turned and mirrored, and back.
use Rattle.std.proofs.Common.{◌≡◌, ◌+◌, ◌-◌, ◌*◌, ◌/◌, ◌%◌, ◌<◌, ◌≤◌, ℕ, false, List, length, get_or, sym, ap, ap₂, ◌∙◌, arith}
use Rattle.std.proofs.Math.Nat.{div-lt_iff_lt-mul, mod-lt}
use Rattle.std.proofs.lemmas.Bool.Decides.{nat_tests}
use Rattle.std.proofs.lemmas.List.FromFn.{fill_by_all, get_or-map-range_with_len}
use Rattle.std.proofs.lemmas.Nat.{div-add-mod', div-mul-add, mod-mul-add, mul-add-lt}
use Rattle.qrcode_types.specs.declared.types.Color.{Color}
use Rattle.qrcode_types.specs.declared.types.Color.TheVariants.{Light}
use Rattle.qrcode_reader.specs.Positions.{place_in_square, seen, seen_at, seen_color}
use Rattle.qrcode_reader.specs.declared.positions.Position.{Position}
use Rattle.qrcode_damage.specs.Laid.{opposite}

inside : (p : Position) (w x y : ℕ) → x < w → y < w → ((place_in_square p w x y).0 < w) × ((place_in_square p w x y).1 < w)
inside p w x y i j = grind (arith, nat_tests)

-- the opposite position leads back to the same place
back : (p : Position) (w x y : ℕ) → x < w → y < w → place_in_square (opposite p) w (place_in_square p w x y).0 (place_in_square p w x y).1 ≡ (x, y)
back p w x y i j = grind (arith, nat_tests)

same_color : (c : Color) → seen_color false c ≡ c
same_color c = grind (arith, nat_tests)

-- a square laid so and seen so is the same
pub laid_and_seen : (w : ℕ) (p : Position) (s : List Color) → 1 ≤ w → length s ≡ w * w → seen w p false (seen w (opposite p) false s) ≡ s
unfolding seen
laid_and_seen w p s some square = sym (fill_by_all (seen_at w p false (seen w (opposite p) false s)) s (w * w) Light square (λ k below.
    let q = opposite p in
    let x = k % w in
    let y = k / w in
    let i : x < w = mod-lt k some in
    let j : y < w = (div-lt_iff_lt-mul {k = w} {x = k} {y = w} some).1 below in
    let at = place_in_square p w x y in
    let at_inside = inside p w x y i j in
    let n = at.1 * w + at.0 in
    let there : get_or (seen w q false s) n Light ≡ seen_at w q false s n =
    get_or-map-range_with_len (seen_at w q false s) 0 (w * w) n n Light (mul-add-lt at.1 w at.0 w at_inside.1 at_inside.0) (omega arith) in
    let returned = ap₂ (λ (a b : ℕ). place_in_square q w a b) (mod-mul-add at.1 w at.0 at_inside.0) (div-mul-add at.1 w at.0 at_inside.0) ∙ back p w x y i j in
    let same : y * w + x ≡ k = omega (arith, div-add-mod' k w) in
    sym (same_color (get_or (seen w q false s) n Light) ∙ there
    ∙ ap (λ (b : ℕ × ℕ). seen_color false (get_or s (b.1 * w + b.0) Light)) returned
    ∙ same_color (get_or s (y * w + x) Light) ∙ ap (λ m. get_or s m Light) same)))
