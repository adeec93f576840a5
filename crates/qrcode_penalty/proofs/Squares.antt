-- Sums over a square.
use Rattle.std.proofs.Common.{◌≡◌, ℕ, suc, ◌+◌, ◌-◌, ◌*◌, ◌/◌, ◌^◌, ◌<◌, Bool, List, ◌&&◌, length, ap, ap₂, sym, ◌∙◌, arith, count_ones, not, max, nat_lt, inl, inr}
use Rattle.std.specs.Int.{abs_diff}
use mathlib.Core.Path.{fun_ext}
use Rattle.std.proofs.lemmas.List.{get_or_past}
use Rattle.std.proofs.lemmas.Bool.Decides.{leb_tells}
use Rattle.qrcode_penalty.specs.Rows.{is_set}
use Rattle.qrcode_penalty.proofs.Places.{has_above, has_shr, has_zero}
use Rattle.qrcode_penalty.specs.Penalty.{sum_below, count_if, same, run_penalty_at, run_penalty, finder_penalty_at, finder_penalty, line_penalty, block_penalty, dark_count, balance_penalty, normal_penalty, light_count, micro_penalty}
use Rattle.qrcode_penalty.specs.Rows.{dark_in, FitsWidth, Shows, inside}
use Rattle.qrcode_penalty.proofs.Runs.{run_penalty-windows}
use Rattle.qrcode_penalty.proofs.Sums.{count_places, sum_plus, sum_same, sum_swap}
use Rattle.qrcode_penalty.proofs.Lines.{without, without_at, without_above}
use Rattle.qrcode_penalty.proofs.ColumnWords.{row}

pub square_cost : (rows : List ℕ) (n a b d e f : ℕ) →
    a ≡ sum_below n (λ y. line_penalty n (λ x. dark_in rows x y)) →
    b ≡ sum_below (n - 4) (λ y. sum_below n (λ x. run_penalty_at (dark_in rows x) y)) →
    d ≡ sum_below (n - 6) (λ y. sum_below n (λ x. finder_penalty_at n (dark_in rows x) y)) →
    e ≡ block_penalty n (dark_in rows) →
    f ≡ balance_penalty n (dark_in rows) →
    a + b + d + e + f ≡ normal_penalty n (dark_in rows)
unfolding normal_penalty finder_penalty
square_cost rows n a b d e f ra rb rd re rf =
    let runs : b ≡ sum_below n (λ x. run_penalty n (dark_in rows x)) = rb ∙ sum_swap (λ x y. run_penalty_at (dark_in rows x) y) (n - 4) n ∙ sum_same _ _ n (λ x h. sym (run_penalty-windows n (dark_in rows x))) in
    let finders : d ≡ sum_below n (λ x. finder_penalty n (dark_in rows x)) = rd ∙ sum_swap (λ x y. finder_penalty_at n (dark_in rows x) y) (n - 6) n in
    let columns : b + d ≡ sum_below n (λ x. line_penalty n (dark_in rows x)) = ap₂ (λ (u v : ℕ). u + v) runs finders ∙ sym (sum_plus (λ x. run_penalty n (dark_in rows x)) (λ x. finder_penalty n (dark_in rows x)) n) in
    let group : a + b + d + e + f ≡ a + (b + d) + e + f = omega arith in
    group ∙ ap₂ (λ (u v : ℕ). u + v) (ap₂ (λ (u v : ℕ). u + v) (ap₂ (λ (u v : ℕ). u + v) ra columns) re) rf

pub light_places : (a n : ℕ) → count_ones (without (2 ^ (n - 1) - 1) (a / 2 ^ 1)) ≡ light_count n (is_set a)
unfolding light_count
light_places a n =
    count_places (without (2 ^ (n - 1) - 1) (a / 2 ^ 1)) (λ i. not (is_set a (i + 1))) (n - 1)
    (λ k h. without_at (n - 1) (a / 2 ^ 1) k h ∙ ap not (has_shr a 1 k))
    (λ k h. without_above (n - 1) (a / 2 ^ 1) k h)

-- the light modules of the last row and of the last column give the Micro penalty
pub micro_cost : (dark : ℕ → ℕ → Bool) (n h v : ℕ) → h ≡ light_count n (λ x. dark x (n - 1)) → v ≡ light_count n (dark (n - 1)) → h + v + 15 * max h v ≡ micro_penalty n dark
unfolding micro_penalty
micro_cost dark n h v a b = ap₂ (λ (x y : ℕ). x + y + 15 * max x y) a b

-- two lines that agree at all places have as many light ones
pub light_same : (n : ℕ) (f g : ℕ → Bool) → ((k : ℕ) → k < n → f k ≡ g k) → light_count n f ≡ light_count n g
unfolding light_count
light_same n f g same = sum_same _ _ (n - 1) (λ k h. ap (λ b. count_if (not b) 1) (same (k + 1) (omega arith)))

pub balance_of : (dark : ℕ → ℕ → Bool) (w result darks : ℕ) → result ≡ abs_diff (200 * darks / (w * w)) 100 → darks ≡ dark_count w dark → result ≡ balance_penalty w dark
unfolding balance_penalty
balance_of dark w result darks e f = e ∙ ap (λ d. abs_diff (200 * d / (w * w)) 100) f

-- the rows have no dark place outside the square
same_place : (w : ℕ) (rows : List ℕ) (dark : ℕ → ℕ → Bool) → length rows ≡ w → ((y : ℕ) → FitsWidth w (row rows y)) → Shows w rows dark → (x y : ℕ) → dark_in rows x y ≡ inside w dark x y
unfolding dark_in
same_place w rows dark square ends shows x y =
    elim (leb_tells (suc x) w) [
      | inl p ↦ elim (leb_tells (suc y) w) [
        | inl q ↦ sym (shows x y p.1 q.1) ∙ sym (ap₂ (λ (a b : Bool). a && b && dark x y) p.0 q.0)
        | inr q ↦ ap (λ n. is_set n x) (get_or_past rows y 0 (omega (arith, q.1))) ∙ has_zero x ∙ sym (ap₂ (λ (a b : Bool). a && b && dark x y) p.0 q.0)
      ]
      | inr p ↦ has_above (row rows y) w x (ends y) (omega (arith, p.1)) ∙ sym (ap (λ a. a && nat_lt y w && dark x y) p.0)
    ]

pub same_square : (w : ℕ) (rows : List ℕ) (dark : ℕ → ℕ → Bool) → length rows ≡ w → ((y : ℕ) → FitsWidth w (row rows y)) → Shows w rows dark → dark_in rows ≡ inside w dark
same_square w rows dark square ends shows = fun_ext (λ x. fun_ext (λ y. same_place w rows dark square ends shows x y))
