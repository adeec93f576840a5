-- The free places, counted by columns.
use Rattle.std.proofs.Common.{◌≡◌, ℕ, ◌+◌, ◌-◌, ◌*◌, ◌/◌, ◌%◌, ◌<◌, ◌==◌, Bool, true, false, not, length, arith, refl, sym, ap, ap₂, ◌∙◌, if◌then◌else◌}
use Rattle.std.proofs.Math.Nat.{mul_comm}
use Rattle.std.proofs.lemmas.Nat.{div-mul-add, mod-mul-add}
use Rattle.qrcode_types.specs.Versions.{side}
use Rattle.qrcode_types.specs.declared.types.Version.{Version}
use Rattle.qrcode_layout.specs.Patterns.{is_functional_place}
use Rattle.qrcode_layout.specs.Stream.{zigzag_place, zigzag, free_places, right_column}
use Rattle.qrcode_layout.proofs.Zigzag.{row, half, side_odd, place_is, steps_is}
use Rattle.qrcode_layout.proofs.Totals.{total, total_same, total_add, total_turned, total_blocks, total_pairs, bit, kept_total}

-- 1 for a free place
abbrev pub free_bit : Version → ℕ → ℕ → ℕ
free_bit v x y = bit (not (is_functional_place v x y))

-- the free places of a column
abbrev pub column : Version → ℕ → ℕ
column v x = total (side v) (free_bit v x)

-- a pair's rows, upwards or downwards
line : ℕ → ℕ → ℕ → ℕ
line w p r = if p % 2 == 0 then w - 1 - r else r

line_even : (w p r : ℕ) → row w p (2 * r) ≡ line w p r
unfolding row line
line_even w p r = let e : 2 * r / 2 ≡ r = omega arith in rw e refl

line_odd : (w p r : ℕ) → row w p (2 * r + 1) ≡ line w p r
unfolding row line
line_odd w p r = let e : (2 * r + 1) / 2 ≡ r = omega arith in rw e refl

total_line : (w p : ℕ) (f : ℕ → ℕ) → total w (λ r. f (line w p r)) ≡ total w f
unfolding line
total_line w p f = go (p % 2 == 0) where
  go : (b : Bool) → total w (λ r. f (if b then w - 1 - r else r)) ≡ total w f
  go true = total_turned w f
  go false = refl

place_at : (v : Version) (p s : ℕ) → s < 2 * side v → zigzag_place v (p * (2 * side v) + s) ≡ (right_column v p - s % 2, row (side v) p s)
place_at v p s lt =
    let n = 2 * side v in
    place_is v (p * n + s) ∙ rw (div-mul-add p n s lt, mod-mul-add p n s lt) refl

pair_total : (v : Version) (p : ℕ) → total (2 * side v) (λ s. free_bit v (zigzag_place v (p * (2 * side v) + s)).0 (zigzag_place v (p * (2 * side v) + s)).1)
    ≡ column v (right_column v p) + column v (right_column v p - 1)
pair_total v p =
    let w = side v in
    let f = λ (s : ℕ). free_bit v (right_column v p - s % 2) (row w p s) in
    let even = λ (r : ℕ) (_ : r < w). (let z : 2 * r % 2 ≡ 0 = omega arith in
    ap₂ (λ a y. free_bit v (right_column v p - a) y) z (line_even w p r) ∙ ap (λ x. free_bit v x (line w p r)) (let k : right_column v p - 0 ≡ right_column v p = omega arith in k)) in
    let odd = λ (r : ℕ) (_ : r < w). (let z : (2 * r + 1) % 2 ≡ 1 = omega arith in ap₂ (λ a y. free_bit v (right_column v p - a) y) z (line_odd w p r)) in
    total_same (2 * w) (λ s. free_bit v (zigzag_place v (p * (2 * w) + s)).0 (zigzag_place v (p * (2 * w) + s)).1) f
    (λ s lt. ap (λ q. free_bit v q.0 q.1) (place_at v p s lt))
    ∙ total_pairs w f
    ∙ ap₂ (λ a b. a + b)
    (total_same w (λ r. f (2 * r)) (λ r. free_bit v (right_column v p) (line w p r)) even ∙ total_line w p (free_bit v (right_column v p)))
    (total_same w (λ r. f (2 * r + 1)) (λ r. free_bit v (right_column v p - 1) (line w p r)) odd ∙ total_line w p (free_bit v (right_column v p - 1)))

pub free_by_columns : (v : Version) → length (free_places v) ≡ total (half v) (λ p. column v (right_column v p)) + total (half v) (λ p. column v (right_column v p - 1))
unfolding free_places zigzag
free_by_columns v =
    let w = side v in
    let n = 2 * w in
    let f = λ (t : ℕ). free_bit v (zigzag_place v t).0 (zigzag_place v t).1 in
    let e : w * (w - 1) ≡ half v * n = sym (steps_is w (half v) (side_odd v)) ∙ mul_comm (2 * w) (half v) in
    kept_total (λ p. not (is_functional_place v p.0 p.1)) (zigzag_place v) 0 (w * (w - 1))
    ∙ total_same (w * (w - 1)) (λ t. f (0 + t)) f (λ t _. ap f (let z : 0 + t ≡ t = omega arith in z))
    ∙ ap (λ m. total m f) e
    ∙ total_blocks (half v) n f
    ∙ total_same (half v) (λ p. total n (λ s. f (p * n + s))) (λ p. column v (right_column v p) + column v (right_column v p - 1)) (λ p _. pair_total v p)
    ∙ total_add (half v) (λ p. column v (right_column v p)) (λ p. column v (right_column v p - 1))
