-- What remains to be drawn at each step of the walk.
use Rattle.std.proofs.Common.{◌≡◌, ℕ, zero, suc, ◌+◌, ◌-◌, ◌*◌, ◌/◌, ◌%◌, ◌<◌, ◌≤◌, ◌≢◌, Bool, true, false, List, [], ◌∷◌, map, set, get_or, arith, sym, ap, ap₂, refl, ◌∙◌}
use Rattle.std.specs.Prelude.{slice_get, IsTrue}
use Rattle.std.specs.List.{range_with_len, filter}
use Rattle.std.proofs.lemmas.List.{get_or-set_other}
use Rattle.std.proofs.lemmas.Nat.{div-mul-add, mod-mul-add, same_from_place}
use Rattle.std.proofs.Math.Nat.{mul-le-mul_left}
use Rattle.std.proofs.lemmas.Simd.{map-map}
use Rattle.qrcode_types.specs.Colors.{color_of}
use Rattle.qrcode_types.specs.Versions.{side, is_valid}
use Rattle.qrcode_types.specs.declared.types.Version.{Version}
use Rattle.qrcode_layout.specs.Stream.{zigzag, zigzag_place, right_column}
use Rattle.qrcode_layout.proofs.Zigzag.{walk_is_inside, walk_is_apart}
use Rattle.qrcode_symbol.specs.Canvas.{is_empty, put_bits, with_bits_drawn}
use Rattle.qrcode_symbol.specs.Filling.{row_of_step, place_index, empty_from, filled_from, drawn_if, left_if, is_empty_at}
use Rattle.qrcode_symbol.specs.declared.canvas.Module.{Module}
use Rattle.qrcode_symbol.specs.declared.canvas.Module.TheVariants.{Empty, Unmasked}

-- no two steps of the walk have the same place
abbrev pub IsApart : Version → Type 0
IsApart v = (s t : ℕ) → s < t → t < side v * (side v - 1) → place_index v t ≢ place_index v s

range_more : (t n : ℕ) → t < n → range_with_len t (n - t) ≡ t ∷ range_with_len (t + 1) (n - (t + 1))
range_more t n lt = let e : n - t ≡ suc (n - (t + 1)) = omega arith in rw e refl

-- writing to another place does not change which places are empty
empties_set : (f : ℕ → ℕ) (m : List Module) (p : ℕ) (u : Module) (a r : ℕ) → ((s : ℕ) → a ≤ s → s < a + r → f s ≢ p)
    → filter (λ i. is_empty (get_or (set m p u) i Empty)) (map f (range_with_len a r)) ≡ filter (λ i. is_empty (get_or m i Empty)) (map f (range_with_len a r))
empties_set f m p u a zero apart = refl
empties_set f m p u a (suc r) apart =
    let here : f a ≢ p = apart a (omega arith) (omega arith) in
    let rest = empties_set f m p u (a + 1) r (λ s l h. apart s (omega arith) (omega arith)) in
    rw (get_or-set_other m p (f a) u Empty here, rest) refl

put_none : (ps : List ℕ) (m : List Module) → put_bits ps [] m ≡ m
put_none [] m = refl
put_none (p ∷ ps) m = refl

skipped : (v : Version) (bits : List Bool) (m : List Module) (t : ℕ) → t < side v * (side v - 1)
    → is_empty_at m (place_index v t) ≡ false → filled_from v bits m (t + 1) ≡ filled_from v bits m t
unfolding filled_from
skipped v bits m t lt taken = rw (range_more t (side v * (side v - 1)) lt, taken) refl

put : (v : Version) (bits : List Bool) (m : List Module) (t : ℕ) (b : Bool) → IsApart v → t < side v * (side v - 1)
    → is_empty_at m (place_index v t) ≡ true → filled_from v bits (set m (place_index v t) (Unmasked (color_of b))) (t + 1) ≡ filled_from v (b ∷ bits) m t
unfolding filled_from
put v bits m t b apart lt free =
    let n = side v * (side v - 1) in
    rw (range_more t n lt, free, empties_set (place_index v) m (place_index v t) (Unmasked (color_of b)) (t + 1) (n - (t + 1)) (λ s l h. apart t s (omega arith) (omega arith))) refl

none_left : (v : Version) (m : List Module) (t : ℕ) → filled_from v [] m t ≡ m
unfolding filled_from
none_left v m t = put_none (empty_from v m t) m

-- one step of the walk
step : (v : Version) (bits : List Bool) (m : List Module) (t : ℕ) → IsApart v → t < side v * (side v - 1)
    → let free = is_empty_at m (place_index v t) in
    filled_from v (left_if free bits) (drawn_if free (slice_get bits 0) m (place_index v t)) (t + 1) ≡ filled_from v bits m t
step v bits m t apart lt = by_cases (is_empty_at m (place_index v t)) bits refl where
  by_cases : (free : Bool) (bits : List Bool) → is_empty_at m (place_index v t) ≡ free
      → filled_from v (left_if free bits) (drawn_if free (slice_get bits 0) m (place_index v t)) (t + 1) ≡ filled_from v bits m t
  by_cases false bits e = skipped v bits m t lt e
  by_cases true [] e = none_left v m (t + 1) ∙ sym (none_left v m t)
  by_cases true (b ∷ bits) e = put v bits m t b apart lt e

-- before the first step
pub at_start : (v : Version) (bits : List Bool) (m : List Module) → filled_from v bits m 0 ≡ with_bits_drawn v bits m
unfolding filled_from with_bits_drawn zigzag
at_start v bits m =
    let z : side v * (side v - 1) - 0 ≡ side v * (side v - 1) = omega arith in
    rw (z, map-map (λ p. p.1 * side v + p.0) (zigzag_place v) (range_with_len 0 (side v * (side v - 1)))) refl

-- after the last step
pub at_end : (v : Version) (bits : List Bool) (m : List Module) (t : ℕ) → side v * (side v - 1) ≤ t → filled_from v bits m t ≡ m
unfolding filled_from
at_end v bits m t le = let e : side v * (side v - 1) - t ≡ 0 = omega arith in rw e refl

-- the pair and the step of a place, from its number
pair_of : (w pair r : ℕ) → r < 2 * w → (2 * w * pair + r) / (2 * w) ≡ pair
pair_of w pair r lt = let e : 2 * w * pair + r ≡ pair * (2 * w) + r = omega arith in rw e (div-mul-add pair (2 * w) r lt)

step_of : (w pair r : ℕ) → r < 2 * w → (2 * w * pair + r) % (2 * w) ≡ r
step_of w pair r lt = let e : 2 * w * pair + r ≡ pair * (2 * w) + r = omega arith in rw e (mod-mul-add pair (2 * w) r lt)

-- both places of a row in a pair of columns
pub right_place : (v : Version) (pair row : ℕ) → row < side v → place_index v (2 * side v * pair + 2 * row) ≡ row_of_step (side v) pair row * side v + right_column v pair
unfolding zigzag_place
right_place v pair row lt =
    let w = side v in
    let r : 2 * row < 2 * w = omega arith in
    let h : 2 * row / 2 ≡ row = omega arith in
    let o : 2 * row % 2 ≡ 0 = omega arith in
    let z : right_column v pair - 0 ≡ right_column v pair = omega arith in
    rw (pair_of w pair (2 * row) r, step_of w pair (2 * row) r, h, o, z) refl

pub left_place : (v : Version) (pair row : ℕ) → row < side v → 1 ≤ right_column v pair
    → place_index v (2 * side v * pair + 2 * row + 1) ≡ row_of_step (side v) pair row * side v + right_column v pair - 1
unfolding zigzag_place
left_place v pair row lt some =
    let w = side v in
    let r : 2 * row + 1 < 2 * w = omega arith in
    let a : 2 * w * pair + 2 * row + 1 ≡ 2 * w * pair + (2 * row + 1) = omega arith in
    let h : (2 * row + 1) / 2 ≡ row = omega arith in
    let o : (2 * row + 1) % 2 ≡ 1 = omega arith in
    let z : row_of_step (side v) pair row * w + (right_column v pair - 1) ≡ row_of_step (side v) pair row * w + right_column v pair - 1 = omega arith in
    rw (a, pair_of w pair (2 * row + 1) r, step_of w pair (2 * row + 1) r, h, o) z

-- both places of a row are before the end of the walk
pub within : (w pair row : ℕ) → 2 * pair + 3 ≤ w → row < w → 2 * w * pair + 2 * row + 2 ≤ w * (w - 1)
within w pair row p r =
    let small : 2 * pair + 2 ≤ w - 1 = omega arith in
    let product : w * (2 * pair + 2) ≤ w * (w - 1) = mul-le-mul_left w small in
    omega (arith, product)

step_at : (v : Version) (bits : List Bool) (m : List Module) (t p : ℕ) (bits1 : List Bool) (m1 : List Module) → IsApart v → t < side v * (side v - 1) → place_index v t ≡ p
    → bits1 ≡ left_if (is_empty_at m p) bits → m1 ≡ drawn_if (is_empty_at m p) (slice_get bits 0) m p → filled_from v bits1 m1 (t + 1) ≡ filled_from v bits m t
step_at v bits m t p bits1 m1 apart lt at rest after = rw (rest, after, ← at) (step v bits m t apart lt)

-- a row of a pair of columns
pub row_step : (v : Version) (pair row index : ℕ) (bits bits1 bits2 : List Bool) (m m1 m2 : List Module) → IsApart v → 2 * pair + 3 ≤ side v → row < side v
    → index ≡ row_of_step (side v) pair row * side v + right_column v pair → 1 ≤ right_column v pair
    → bits1 ≡ left_if (is_empty_at m index) bits → m1 ≡ drawn_if (is_empty_at m index) (slice_get bits 0) m index
    → bits2 ≡ left_if (is_empty_at m1 (index - 1)) bits1 → m2 ≡ drawn_if (is_empty_at m1 (index - 1)) (slice_get bits1 0) m1 (index - 1)
    → filled_from v bits2 m2 (2 * side v * pair + 2 * (row + 1)) ≡ filled_from v bits m (2 * side v * pair + 2 * row)
row_step v pair row index bits bits1 bits2 m m1 m2 apart p r at some rest1 after1 rest2 after2 =
    let t = 2 * side v * pair + 2 * row in
    let inside : t + 2 ≤ side v * (side v - 1) = within (side v) pair row p r in
    let e : 2 * side v * pair + 2 * (row + 1) ≡ t + 1 + 1 = omega arith in
    let right : place_index v t ≡ index = right_place v pair row r ∙ sym at in
    let left : place_index v (t + 1) ≡ index - 1 = left_place v pair row r some ∙ ap (λ (n : ℕ). n - 1) (sym at) in
    ap (λ (n : ℕ). filled_from v bits2 m2 n) e
    ∙ step_at v bits1 m1 (t + 1) (index - 1) bits2 m2 apart (omega arith) left rest2 after2
    ∙ step_at v bits m t index bits1 m1 apart (omega arith) right rest1 after1

-- the walk has no more pairs than the code draws
pub last_pair : (w pair : ℕ) → w % 2 ≡ 1 → w / 2 ≤ pair → w * (w - 1) ≤ 2 * w * pair
last_pair w pair odd le =
    let small : w - 1 ≤ 2 * pair = omega arith in
    let product : w * (w - 1) ≤ w * (2 * pair) = mul-le-mul_left w small in
    omega (arith, product)

-- no two steps of the walk have the same place
pub apart : (v : Version) → IsTrue (is_valid v) → IsApart v
apart v valid s t lt inside same =
    let s_inside : s < side v * (side v - 1) = omega arith in
    let s_at = walk_is_inside v s valid s_inside in
    let t_at = walk_is_inside v t valid inside in
    let parts = same_from_place (zigzag_place v t).1 (zigzag_place v t).0 (zigzag_place v s).1 (zigzag_place v s).0 (side v) t_at.0 s_at.0 same in
    let one : zigzag_place v s ≡ zigzag_place v t = sym (ap₂ (λ (x y : ℕ). (x, y)) parts.1 parts.0) in
    let e : s ≡ t = walk_is_apart v s t valid s_inside inside one in
    absurd (omega arith)
