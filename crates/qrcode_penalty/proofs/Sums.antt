-- Sums over the numbers below a bound, and the bits of a packed line as such a sum.
use Rattle.std.proofs.Common.{◌≡◌, ℕ, zero, suc, ◌+◌, ◌*◌, ◌/◌, ◌%◌, ◌^◌, ◌<◌, ◌≤◌, Bool, true, false, not, ◌==◌, refl, ap, ap₂, sym, ◌∙◌, arith, count_ones}
use Rattle.std.specs.Int.{bit_at}
use Rattle.std.specs.Int.Count.{ones, ones_step}
use Rattle.std.proofs.lemmas.Nat.{shr_below}
use Rattle.std.proofs.lemmas.Nat.Bits.{bit_at_lowest, bit_at-suc, bit_at-lt}
use Rattle.qrcode_penalty.specs.Rows.{is_set}
use Rattle.qrcode_penalty.proofs.Places.{below_from_places}
use Rattle.qrcode_penalty.specs.Penalty.{sum_below, count_if}

pub sum_same : (f g : ℕ → ℕ) (n : ℕ) → ((k : ℕ) → k < n → f k ≡ g k) → sum_below n f ≡ sum_below n g
unfolding sum_below
sum_same f g zero h = refl
sum_same f g (suc n) h = ap₂ (λ (a b : ℕ). a + b) (sum_same f g n (λ k l. h k (omega arith))) (h n (omega arith))

pub sum_plus : (f g : ℕ → ℕ) (n : ℕ) → sum_below n (λ k. f k + g k) ≡ sum_below n f + sum_below n g
unfolding sum_below
sum_plus f g zero = omega arith
sum_plus f g (suc n) = omega (arith, sum_plus f g n)

pub sum_times : (c : ℕ) (f : ℕ → ℕ) (n : ℕ) → sum_below n (λ k. c * f k) ≡ c * sum_below n f
unfolding sum_below
sum_times c f zero = omega arith
sum_times c f (suc n) = ap (λ a. a + c * f n) (sum_times c f n) ∙ grind arith

pub sum_zero : (f : ℕ → ℕ) (n : ℕ) → ((k : ℕ) → k < n → f k ≡ 0) → sum_below n f ≡ 0
unfolding sum_below
sum_zero f zero h = refl
sum_zero f (suc n) h = omega (arith, sum_zero f n (λ k l. h k (omega arith)), h n (omega arith))

pub sum_swap : (f : ℕ → ℕ → ℕ) (n m : ℕ) → sum_below n (λ y. sum_below m (λ x. f x y)) ≡ sum_below m (λ x. sum_below n (λ y. f x y))
unfolding sum_below
sum_swap f zero m = sym (sum_zero (λ x. 0) m (λ k l. refl))
sum_swap f (suc n) m = ap (λ a. a + sum_below m (λ x. f x n)) (sum_swap f n m) ∙ sym (sum_plus (λ x. sum_below n (λ y. f x y)) (λ x. f x n) m)

pub sum_front : (f : ℕ → ℕ) (n : ℕ) → sum_below (suc n) f ≡ f 0 + sum_below n (λ k. f (suc k))
unfolding sum_below
sum_front f zero = omega arith
sum_front f (suc n) = ap (λ a. a + f (suc n)) (sum_front f n) ∙ omega arith

bit_value : (x : ℕ) → x < 2 → x ≡ count_if (x == 1) 1
bit_value zero h = refl
bit_value (suc zero) h = refl
bit_value (suc (suc x)) h = absurd (omega arith)

-- the bits of a number that are 1, as a sum over its places
ones_sum : (w n : ℕ) → n < 2 ^ w → ones n ≡ sum_below w (λ k. count_if (is_set n k) 1)
unfolding ones is_set sum_below
ones_sum zero n h = let e : n ≡ 0 = omega arith in rw e refl
ones_sum (suc w) n h =
    let half : n / 2 < 2 ^ w = shr_below n w 1 (let e : w + 1 ≡ suc w = omega arith in rw e h) in
    let low : n % 2 ≡ count_if (bit_at n 0 == 1) 1 = sym (bit_at_lowest n) ∙ bit_value (bit_at n 0) (bit_at-lt n 0) in
    ones_step n
    ∙ ap₂ (λ (a b : ℕ). a + b) low (ones_sum w (n / 2) half ∙ sum_same (λ k. count_if (bit_at (n / 2) k == 1) 1) (λ k. count_if (bit_at n (suc k) == 1) 1) w (λ k l. ap (λ x. count_if (x == 1) 1) (sym (bit_at-suc n k))))
    ∙ sym (sum_front (λ k. count_if (bit_at n k == 1) 1) w)

-- the bits that are 1, if the first w bits are the results of a test and the rest are 0
pub count_places : (n : ℕ) (f : ℕ → Bool) (w : ℕ) → ((k : ℕ) → k < w → is_set n k ≡ f k) → ((k : ℕ) → w ≤ k → is_set n k ≡ false) → count_ones n ≡ sum_below w (λ k. count_if (f k) 1)
count_places n f w inside above =
    ones_sum w n (below_from_places n w above)
    ∙ sum_same (λ k. count_if (is_set n k) 1) (λ k. count_if (f k) 1) w (λ k l. ap (λ b. count_if b 1) (inside k l))

times_if : (c : ℕ) (b : Bool) → c * count_if b 1 ≡ count_if b c
times_if c true = omega arith
times_if c false = omega arith

-- `count_places` where each such place counts c
pub weigh_places : (c n : ℕ) (f : ℕ → Bool) (w : ℕ) → ((k : ℕ) → k < w → is_set n k ≡ f k) → ((k : ℕ) → w ≤ k → is_set n k ≡ false) → c * count_ones n ≡ sum_below w (λ k. count_if (f k) c)
weigh_places c n f w inside above =
    ap (λ a. c * a) (count_places n f w inside above)
    ∙ sym (sum_times c (λ k. count_if (f k) 1) w)
    ∙ sum_same (λ k. c * count_if (f k) 1) (λ k. count_if (f k) c) w (λ k l. times_if c (f k))

-- a sum with one more term
pub sum_step : (f : ℕ → ℕ) (n s v : ℕ) → s ≡ sum_below n f → v ≡ f n → s + v ≡ sum_below (n + 1) f
unfolding sum_below
sum_step f n s v h k =
    let e : n + 1 ≡ suc n = omega arith in
    ap₂ (λ (a b : ℕ). a + b) h k ∙ ap (λ m. sum_below m f) (sym e)

-- a sum with two more terms
pub sum_two : (f : ℕ → ℕ) (n s v : ℕ) → s ≡ sum_below n f → v ≡ f n + f (n + 1) → s + v ≡ sum_below (n + 2) f
sum_two f n s v h k =
    let e : n + 1 + 1 ≡ n + 2 = omega arith in
    let one : s + f n ≡ sum_below (n + 1) f = sum_step f n s (f n) h refl in
    omega (arith, k, sum_step f (n + 1) (s + f n) (f (n + 1)) one refl, ap (λ m. sum_below m f) e)

-- the places where a test fails and those where it passes are all places
pub sum_others : (f : ℕ → Bool) (n : ℕ) → sum_below n (λ k. count_if (not (f k)) 1) + sum_below n (λ k. count_if (f k) 1) ≡ n
unfolding sum_below
sum_others f zero = refl
sum_others f (suc n) = omega (arith, sum_others f n, by_case (f n)) where
  by_case : (b : Bool) → count_if (not b) 1 + count_if b 1 ≡ 1
  by_case true = refl
  by_case false = refl
