-- The bits along the zigzag, place by place.
use Rattle.std.proofs.Common.{ℤ, pos, to_z, of_z, w16, subst, append_assoc, ◌≡◌, ◌<◌, ◌+◌, ◌-◌, ◌*◌, ◌/◌, ◌%◌, ℕ, Bool, true, false, not, List, [], ◌∷◌, ◌++◌, map, get_or, refl, sym, ap, ap₂, ◌∙◌, arith, append-nil, cond}
use Rattle.std.specs.List.{range_with_len, flat_map, filter}
use Rattle.std.proofs.lemmas.List.FromFn.{map-range_with_len_more}
use Rattle.std.proofs.lemmas.List.Concat.{flat_map-append}
use Rattle.std.proofs.lemmas.Nat.{div-mul-add, mod-mul-add}
use Rattle.std.proofs.lemmas.Int.{to_z-of_z}
use lib.Signed.{mag}
use Rattle.qrcode_types.specs.Colors.{is_dark}
use Rattle.qrcode_types.specs.Versions.{side}
use Rattle.qrcode_types.specs.declared.types.Version.{Version}
use Rattle.qrcode_types.specs.declared.types.Color.{Color}
use Rattle.qrcode_layout.specs.Masks.{turns, turned_if}
use Rattle.qrcode_layout.specs.Patterns.{is_functional_place}
use Rattle.qrcode_layout.specs.Stream.{color_at, zigzag_place, zigzag, free_places, stream, right_column}
use Rattle.qrcode_layout.specs.declared.masks.MaskPattern.{MaskPattern}
use Rattle.qrcode_symbol.specs.Filling.{row_of_step}
use Rattle.qrcode_symbol.specs.Canvas.{is_empty, with_patterns, blank}
use Rattle.qrcode_symbol.specs.declared.canvas.Module.{Module}
use Rattle.qrcode_symbol.specs.declared.canvas.Module.TheVariants.{Empty, Masked, Unmasked}
use Rattle.qrcode_symbol.proofs.Functional.{patterned_place, empty_module}
use Rattle.qrcode_reader.specs.Streams.{bits_turned, bits_of_place, bits_walked}

pair_of : (w pair r : ℕ) → r < 2 * w → (2 * w * pair + r) / (2 * w) ≡ pair
pair_of w pair r lt = let e : 2 * w * pair + r ≡ pair * (2 * w) + r = omega arith in rw e (div-mul-add pair (2 * w) r lt)

step_of : (w pair r : ℕ) → r < 2 * w → (2 * w * pair + r) % (2 * w) ≡ r
step_of w pair r lt = let e : 2 * w * pair + r ≡ pair * (2 * w) + r = omega arith in rw e (mod-mul-add pair (2 * w) r lt)

right_place : (v : Version) (pair row : ℕ) → row < side v → zigzag_place v (2 * side v * pair + 2 * row) ≡ (right_column v pair, row_of_step (side v) pair row)
unfolding zigzag_place
right_place v pair row lt =
    let w = side v in
    let r : 2 * row < 2 * w = omega arith in
    let h : 2 * row / 2 ≡ row = omega arith in
    let o : 2 * row % 2 ≡ 0 = omega arith in
    let z : right_column v pair - 0 ≡ right_column v pair = omega arith in
    rw (pair_of w pair (2 * row) r, step_of w pair (2 * row) r, h, o, z) refl

left_place : (v : Version) (pair row : ℕ) → row < side v → zigzag_place v (2 * side v * pair + 2 * row + 1) ≡ (right_column v pair - 1, row_of_step (side v) pair row)
unfolding zigzag_place
left_place v pair row lt =
    let w = side v in
    let r : 2 * row + 1 < 2 * w = omega arith in
    let a : 2 * w * pair + 2 * row + 1 ≡ 2 * w * pair + (2 * row + 1) = omega arith in
    let h : (2 * row + 1) / 2 ≡ row = omega arith in
    let o : (2 * row + 1) % 2 ≡ 1 = omega arith in
    rw (a, pair_of w pair (2 * row + 1) r, step_of w pair (2 * row + 1) r, h, o) refl

-- no place yet
pub none_walked : (v : Version) (mask : MaskPattern) (s : List Color) → [] ≡ bits_walked v mask s (2 * side v * 0)
unfolding bits_walked
none_walked v mask s = let e : 2 * side v * 0 ≡ 0 = omega arith in rw e refl

-- one more place
one_more : (v : Version) (mask : MaskPattern) (s : List Color) (t : ℕ) (p : ℕ × ℕ) → zigzag_place v t ≡ p → bits_walked v mask s (t + 1) ≡ bits_walked v mask s t ++ bits_of_place v mask s p
unfolding bits_walked
one_more v mask s t p e =
    let f = bits_of_place v mask s in
    let places = map (zigzag_place v) (range_with_len 0 t) in
    ap (flat_map f) (map-range_with_len_more (zigzag_place v) 0 t t (omega arith))
    ∙ flat_map-append f places (zigzag_place v t ∷ [])
    ∙ ap (λ r. flat_map f places ++ r) (append-nil (f (zigzag_place v t)) ∙ ap f e)

-- one more row of a pair of columns
pub row_more : (v : Version) (mask : MaskPattern) (s : List Color) (pair row : ℕ) (before between after : List Bool) (x y : ℕ) → row < side v
    → x ≡ right_column v pair → y ≡ row_of_step (side v) pair row
    → before ≡ bits_walked v mask s (2 * side v * pair + 2 * row) → between ≡ before ++ bits_of_place v mask s (x, y)
    → after ≡ between ++ bits_of_place v mask s (x - 1, y) → after ≡ bits_walked v mask s (2 * side v * pair + 2 * (row + 1))
row_more v mask s pair row before between after x y lt ex ey b1 b2 b3 =
    let t = 2 * side v * pair + 2 * row in
    let e : t + 1 + 1 ≡ 2 * side v * pair + 2 * (row + 1) = omega arith in
    let right = right_place v pair row lt ∙ sym (ap₂ (λ (a b : ℕ). (a, b)) ex ey) in
    let left = left_place v pair row lt ∙ sym (ap₂ (λ (a b : ℕ). (a - 1, b)) ex ey) in
    b3 ∙ ap (λ r. r ++ bits_of_place v mask s (x - 1, y)) (b2 ∙ ap (λ r. r ++ bits_of_place v mask s (x, y)) b1 ∙ sym (one_more v mask s t (x, y) right))
    ∙ sym (one_more v mask s (t + 1) (x - 1, y) left) ∙ ap (bits_walked v mask s) e

-- all places
pub all_walked : (v : Version) (mask : MaskPattern) (s : List Color) (pair : ℕ) → 2 * side v * pair ≡ side v * (side v - 1) → bits_walked v mask s (2 * side v * pair) ≡ stream v mask s
unfolding bits_walked stream free_places zigzag
all_walked v mask s pair e = ap (λ n. flat_map (bits_of_place v mask s) (map (zigzag_place v) (range_with_len 0 n))) e ∙ kept (map (zigzag_place v) (range_with_len 0 (side v * (side v - 1)))) where
  kept : (ps : List (ℕ × ℕ)) → flat_map (bits_of_place v mask s) ps
      ≡ map (λ p. turned_if (turns mask p.0 p.1) (is_dark (color_at v s p.0 p.1))) (filter (λ p. not (is_functional_place v p.0 p.1)) ps)
  kept [] = refl
  kept (p ∷ ps) = go (not (is_functional_place v p.0 p.1)) (kept ps) where
    go : (b : Bool) → flat_map (bits_of_place v mask s) ps ≡ map (λ p. turned_if (turns mask p.0 p.1) (is_dark (color_at v s p.0 p.1))) (filter (λ p. not (is_functional_place v p.0 p.1)) ps)
        → cond b (turned_if (turns mask p.0 p.1) (is_dark (color_at v s p.0 p.1)) ∷ []) [] ++ flat_map (bits_of_place v mask s) ps
        ≡ map (λ p. turned_if (turns mask p.0 p.1) (is_dark (color_at v s p.0 p.1))) (cond b (p ∷ filter (λ p. not (is_functional_place v p.0 p.1)) ps) (filter (λ p. not (is_functional_place v p.0 p.1)) ps))
    go true e = ap (λ r. turned_if (turns mask p.0 p.1) (is_dark (color_at v s p.0 p.1)) ∷ r) e
    go false e = e

-- a place is free if the canvas with the patterns is empty there
free_test : (v : Version) (x y : ℕ) (m : Module) → x < side v → y < side v → m ≡ get_or (with_patterns v (blank v)) (y * side v + x) Empty → is_empty m ≡ not (is_functional_place v x y)
free_test v x y m xl yl e = ap is_empty (e ∙ patterned_place v x y xl yl) ∙ empty_module v x y

not_empty : (m : Module) → (m ≡ Empty → ⊥) → is_empty m ≡ false
not_empty Empty h = absurd (h refl)
not_empty (Masked c) h = refl
not_empty (Unmasked c) h = refl

-- a place that is not free has no bit
pub no_bit : (v : Version) (is_turned : Bool) (s : List Color) (x y : ℕ) (m : Module) → x < side v → y < side v → m ≡ get_or (with_patterns v (blank v)) (y * side v + x) Empty
    → (m ≡ Empty → ⊥) → bits_turned v is_turned s (x, y) ≡ []
no_bit v is_turned s x y m xl yl e other = ap (λ b. cond b (turned_if is_turned (is_dark (color_at v s x y)) ∷ []) []) (sym (free_test v x y m xl yl e) ∙ not_empty m other)

-- a free place has one
pub one_bit : (v : Version) (is_turned : Bool) (s : List Color) (x y : ℕ) (m : Module) → x < side v → y < side v → m ≡ get_or (with_patterns v (blank v)) (y * side v + x) Empty
    → m ≡ Empty → bits_turned v is_turned s (x, y) ≡ turned_if is_turned (is_dark (color_at v s x y)) ∷ []
one_bit v is_turned s x y m xl yl e empty = ap (λ b. cond b (turned_if is_turned (is_dark (color_at v s x y)) ∷ []) []) (sym (free_test v x y m xl yl e) ∙ ap is_empty empty)

-- the bit at a place is written after those of this pair, which come after those of earlier pairs
pub written_behind : (v : Version) (mask : MaskPattern) (s : List Color) (x y : ℕ) (turned : Bool) (before old new : List Bool) → turned ≡ turns mask x y
    → new ≡ old ++ bits_turned v turned s (x, y) → before ++ new ≡ (before ++ old) ++ bits_of_place v mask s (x, y)
written_behind v mask s x y turned before old new t e =
    ap (λ r. before ++ r) (e ∙ ap (λ b. old ++ bits_turned v b s (x, y)) t) ∙ sym (append_assoc before old (bits_of_place v mask s (x, y)))

-- a number that is not negative and fits i16 stays the same in it
pub signed : (z : ℤ) (x : ℕ) → z ≡ pos x → mag z < 32768 → to_z w16 (of_z w16 z) ≡ pos x
signed z x e h =
    let small : x < 32768 = subst (λ (u : ℤ). mag u < 32768) e h in
    ap (λ (u : ℤ). to_z w16 (of_z w16 u)) e ∙ to_z-of_z w16 (pos x) (omega (arith, small))

-- half of the side, pairs of columns are all columns but one
pub whole_walk : (w pair : ℕ) → w % 2 ≡ 1 → pair ≡ w / 2 → 2 * w * pair ≡ w * (w - 1)
whole_walk w pair odd e =
    let small : 2 * pair ≡ w - 1 = omega (arith, odd, e) in
    let f : w * (2 * pair) ≡ w * (w - 1) = ap (λ n. w * n) small in
    omega (arith, f)
