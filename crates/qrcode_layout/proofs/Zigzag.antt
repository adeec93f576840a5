-- Where the walk goes: it stays inside the square, visits no place twice, and visits each place outside the column that it skips.
use Rattle.std.proofs.Common.{◌≡◌, ℕ, ◌+◌, ◌-◌, ◌*◌, ◌/◌, ◌%◌, ◌<◌, ◌≤◌, ◌≢◌, nat_abs, nat_le, arith, sym, subst, ap, ap₂, refl, ◌==◌, if◌then◌else◌, ◌∙◌, inl, inr}
use Rattle.std.proofs.Math.Nat.{div-lt_iff_lt-mul}
use Rattle.std.proofs.lemmas.Nat.{div-add-mod', div-mul-add, mod-mul-add, mul-add-lt}
use Rattle.std.proofs.lemmas.Bool.{cases_eq}
use Rattle.std.proofs.lemmas.Bool.Decides.{nat_tests}
use Rattle.qrcode_types.specs.Versions.{side}
use Rattle.qrcode_types.specs.declared.types.Version.{Version}
use Rattle.qrcode_types.specs.declared.types.Version.TheVariants.{Normal, Micro}
use Rattle.qrcode_layout.specs.Stream.{zigzag_place, right_column}
use Rattle.qrcode_layout.specs.Laws.{left_out, WalkIsInside, WalkIsApart, WalkIsWhole}

-- the steps of the walk
abbrev pub steps : Version → ℕ
steps v = side v * (side v - 1)

-- the row of a step of a pair
unfoldable pub row : ℕ → ℕ → ℕ → ℕ
row w p r = if p % 2 == 0 then w - 1 - r / 2 else r / 2

-- half of the side, rounded down
unfoldable pub half : Version → ℕ
half (Normal v) = 2 * nat_abs v + 8
half (Micro v) = nat_abs v + 4

pub side_odd : (v : Version) → side v ≡ 2 * half v + 1
unfolding half
side_odd v = grind (arith, nat_tests)

pub place_is : (v : Version) (t : ℕ)
    → zigzag_place v t ≡ (right_column v (t / (2 * side v)) - t % (2 * side v) % 2, row (side v) (t / (2 * side v)) (t % (2 * side v)))
unfolding zigzag_place row
place_is v t = refl

pair_lt : (h t : ℕ) → t < (2 * h + 1) * (2 * h) → t / (2 * (2 * h + 1)) < h
pair_lt h t lt = (div-lt_iff_lt-mul {k = 2 * (2 * h + 1)} {x = t} {y = h} (omega arith)).1 (omega arith)

-- an odd side leaves room for both columns of each pair
pair_small : (w h t : ℕ) → w ≡ 2 * h + 1 → t < w * (w - 1) → 2 * (t / (2 * w)) + 3 ≤ w
pair_small w h t e lt =
    subst (λ (k : ℕ). t < k * (k - 1) → 2 * (t / (2 * k)) + 3 ≤ k) (sym e)
    (λ below. let less : 2 * h + 1 - 1 ≡ 2 * h = omega arith in omega (arith, pair_lt h t (rw less at below)))
    lt

pair_of_small : (v : Version) (t : ℕ) → t < steps v → 2 * (t / (2 * side v)) + 3 ≤ side v
pair_of_small v t lt = pair_small (side v) (half v) t (side_odd v) lt

-- a column determines its pair, and which of the two it is
same_column : (v : Version) (h p q a b : ℕ) → side v ≡ 2 * h + 1 → 2 * p + 3 ≤ side v → 2 * q + 3 ≤ side v → a < 2 → b < 2
    → right_column v p - a ≡ right_column v q - b → (p ≡ q) × (a ≡ b)
same_column (Normal v) h p q a b odd pw qw a2 b2 e = (grind (arith, nat_tests), grind (arith, nat_tests))
same_column (Micro v) h p q a b odd pw qw a2 b2 e = (omega arith, omega arith)

right_column_le : (v : Version) (p : ℕ) → right_column v p ≤ side v - 1 - 2 * p
right_column_le v p = grind (arith, nat_tests)

row_lt : (w p r : ℕ) → r < 2 * w → row w p r < w
unfolding row
row_lt w p r lt = grind (arith, nat_tests)

same_row : (w p a b : ℕ) → a < 2 * w → b < 2 * w → row w p a ≡ row w p b → a / 2 ≡ b / 2
unfolding row
same_row w p a b al bl e = grind (arith, nat_tests)

-- numbers with the same quotient and remainder are the same
same_number : (n s t : ℕ) → s / n ≡ t / n → s % n ≡ t % n → s ≡ t
same_number n s t d m = let e : s / n * n + s % n ≡ t / n * n + t % n = cc in sym (div-add-mod' s n) ∙ e ∙ div-add-mod' t n

pub walk_is_inside : WalkIsInside
walk_is_inside v t valid lt =
    let n = 2 * side v in
    let odd = side_odd v in
    let column : right_column v (t / n) - t % n % 2 < side v = omega (arith, right_column_le v (t / n)) in
    let step : t % n < n = omega arith in
    let e = place_is v t in (
      subst (λ (k : ℕ). k < side v) (sym (ap (λ p. p.0) e)) column,
      subst (λ (k : ℕ). k < side v) (sym (ap (λ p. p.1) e)) (row_lt (side v) (t / n) (t % n) step),
    )

pub walk_is_apart : WalkIsApart
walk_is_apart v s t valid sl tl e =
    let n = 2 * side v in
    let odd = side_odd v in
    let same = sym (place_is v s) ∙ e ∙ place_is v t in
    let columns : (s / n ≡ t / n) × (s % n % 2 ≡ t % n % 2) =
    same_column v (half v) (s / n) (t / n) (s % n % 2) (t % n % 2) odd
    (pair_of_small v s sl) (pair_of_small v t tl) (omega arith) (omega arith) (ap (λ p. p.0) same) in
    let rows : row (side v) (s / n) (s % n) ≡ row (side v) (s / n) (t % n) =
    ap (λ p. p.1) same ∙ ap (λ p. row (side v) p (t % n)) (sym columns.0) in
    let halves : s % n / 2 ≡ t % n / 2 = same_row (side v) (s / n) (s % n) (t % n) (omega arith) (omega arith) rows in
    same_number n s t columns.0 (omega arith)

-- how many columns the walk has done before it reaches a column
passed : Version → ℕ → ℕ
passed (Normal v) x = if nat_le x 6 then 4 * nat_abs v + 15 - x else 4 * nat_abs v + 16 - x
passed (Micro v) x = 2 * nat_abs v + 8 - x

passed_lt : (v : Version) (x : ℕ) → x < side v → x ≢ left_out v → passed v x < 2 * half v
unfolding passed half
passed_lt (Normal v) x lt other = grind (arith, nat_tests)
passed_lt (Micro v) x lt other = omega (arith, some) where
  some : 0 < x
  some = elim (cases_eq x 0) [ inl e ↦ absurd (other e) | inr n ↦ omega arith ]

passed_column : (v : Version) (x c p a : ℕ) → x < side v → x ≢ left_out v → c ≡ passed v x → p ≡ c / 2 → a ≡ c % 2 → right_column v p - a ≡ x
unfolding passed
passed_column (Normal v) x c p a lt other ec ep ea = grind (arith, nat_tests)
passed_column (Micro v) x c p a lt other ec ep ea = omega arith

-- the step of a pair that reaches a row
step_to : ℕ → ℕ → ℕ → ℕ → ℕ
step_to w p a y = if p % 2 == 0 then 2 * (w - 1 - y) + a else 2 * y + a

step_to_lt : (w p a y : ℕ) → y < w → a < 2 → step_to w p a y < 2 * w
unfolding step_to
step_to_lt w p a y lt small = grind (arith, nat_tests)

step_to_row : (w p a y : ℕ) → y < w → a < 2 → row w p (step_to w p a y) ≡ y
unfolding step_to row
step_to_row w p a y lt small = grind (arith, nat_tests)

step_to_side : (w p a y : ℕ) → a < 2 → step_to w p a y % 2 ≡ a
unfolding step_to
step_to_side w p a y small = grind (arith, nat_tests)

pub steps_is : (w h : ℕ) → w ≡ 2 * h + 1 → 2 * w * h ≡ w * (w - 1)
steps_is w h e = subst (λ (k : ℕ). 2 * k * h ≡ k * (k - 1)) (sym e) (let less : 2 * h + 1 - 1 ≡ 2 * h = omega arith in rw less (omega arith))

pub walk_is_whole : WalkIsWhole
walk_is_whole v x y valid at other =
    let w = side v in
    let n = 2 * w in
    let odd = side_odd v in
    let c = passed v x in
    let p = c / 2 in
    let a = c % 2 in
    let r = step_to w p a y in
    let t = p * n + r in
    let below : r < n = step_to_lt w p a y at.1 (omega arith) in
    let pair : t / n ≡ p = div-mul-add p n r below in
    let step : t % n ≡ r = mod-mul-add p n r below in
    let early : p < half v = omega (arith, passed_lt v x at.0 other) in
    let lt : t < w * (w - 1) = subst (λ (k : ℕ). t < k) (steps_is w (half v) odd) (mul-add-lt p n r (half v) early below) in
    let column : right_column v (t / n) - t % n % 2 ≡ x =
    rw (pair, step, step_to_side w p a y (omega arith)) (passed_column v x c p a at.0 other refl refl refl) in
    let line : row w (t / n) (t % n) ≡ y = rw (pair, step) (step_to_row w p a y at.1 (omega arith)) in
    (t, (lt, place_is v t ∙ ap₂ (λ a b. (a, b)) column line))
