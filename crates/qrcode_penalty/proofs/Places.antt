-- The bits of a line, by the operation that made it.
use Rattle.std.proofs.Common.{◌≡◌, ℕ, zero, suc, ◌+◌, ◌-◌, ◌*◌, ◌/◌, ◌%◌, ◌^◌, ◌<◌, ◌≤◌, Bool, true, false, not, ◌==◌, ◌&&◌, ◌||◌, refl, ap, sym, ◌∙◌, arith, min, max, bit_and, bit_or, bit_xor}
use Rattle.std.specs.Int.{bit_at}
use Rattle.std.proofs.lemmas.Nat.{shr-shr, shr_split, mod_below, pow_pos}
use Rattle.std.proofs.lemmas.Nat.Bits.{bit_at_and, bit_at_or, bit_at_xor, bit_at-lt, bit_at-zero, bit_at_above, bit_at_ones, bit_at_ones_above, bit_at_cat_low, bit_at_cat_high, same_from_bits}
use Rattle.qrcode_penalty.specs.Rows.{is_set}

-- exclusive or
abbrev pub differ : Bool → Bool → Bool
differ true b = not b
differ false b = b

min_bit : (x y : ℕ) → x < 2 → y < 2 → (min x y == 1) ≡ ((x == 1) && (y == 1))
min_bit zero zero h k = refl
min_bit zero (suc zero) h k = refl
min_bit (suc zero) zero h k = refl
min_bit (suc zero) (suc zero) h k = refl
min_bit (suc (suc x)) y h k = absurd (omega arith)
min_bit zero (suc (suc y)) h k = absurd (omega arith)
min_bit (suc zero) (suc (suc y)) h k = absurd (omega arith)

max_bit : (x y : ℕ) → x < 2 → y < 2 → (max x y == 1) ≡ ((x == 1) || (y == 1))
max_bit zero zero h k = refl
max_bit zero (suc zero) h k = refl
max_bit (suc zero) zero h k = refl
max_bit (suc zero) (suc zero) h k = refl
max_bit (suc (suc x)) y h k = absurd (omega arith)
max_bit zero (suc (suc y)) h k = absurd (omega arith)
max_bit (suc zero) (suc (suc y)) h k = absurd (omega arith)

xor_bit : (x y : ℕ) → x < 2 → y < 2 → ((x + y) % 2 == 1) ≡ differ (x == 1) (y == 1)
xor_bit zero zero h k = refl
xor_bit zero (suc zero) h k = refl
xor_bit (suc zero) zero h k = refl
xor_bit (suc zero) (suc zero) h k = refl
xor_bit (suc (suc x)) y h k = absurd (omega arith)
xor_bit zero (suc (suc y)) h k = absurd (omega arith)
xor_bit (suc zero) (suc (suc y)) h k = absurd (omega arith)

pub has_and : (a b k : ℕ) → is_set (bit_and a b) k ≡ (is_set a k && is_set b k)
unfolding is_set
has_and a b k = ap (λ x. x == 1) (bit_at_and a b k) ∙ min_bit (bit_at a k) (bit_at b k) (bit_at-lt a k) (bit_at-lt b k)

pub has_or : (a b k : ℕ) → is_set (bit_or a b) k ≡ (is_set a k || is_set b k)
unfolding is_set
has_or a b k = ap (λ x. x == 1) (bit_at_or a b k) ∙ max_bit (bit_at a k) (bit_at b k) (bit_at-lt a k) (bit_at-lt b k)

pub has_xor : (a b k : ℕ) → is_set (bit_xor a b) k ≡ differ (is_set a k) (is_set b k)
unfolding is_set
has_xor a b k = ap (λ x. x == 1) (bit_at_xor a b k) ∙ xor_bit (bit_at a k) (bit_at b k) (bit_at-lt a k) (bit_at-lt b k)

differ_and : (a b : Bool) → differ a (a && b) ≡ (a && not b)
differ_and true b = refl
differ_and false b = refl

pub has_without : (a b k : ℕ) → is_set (bit_xor a (bit_and a b)) k ≡ (is_set a k && not (is_set b k))
has_without a b k = has_xor a (bit_and a b) k ∙ ap (λ b. differ (is_set a k) b) (has_and a b k) ∙ differ_and (is_set a k) (is_set b k)

pub has_shr : (a j k : ℕ) → is_set (a / 2 ^ j) k ≡ is_set a (k + j)
unfolding is_set
has_shr a j k = let e : j + k ≡ k + j = omega arith in ap (λ x. x % 2 == 1) (shr-shr a j k) ∙ ap (λ i. bit_at a i == 1) e

pub has_shl : (a j k : ℕ) → is_set (a * 2 ^ j) (k + j) ≡ is_set a k
unfolding is_set
has_shl a j k =
    let e : a * 2 ^ j ≡ a * 2 ^ j + 0 = omega arith in
    let d : k + j - j ≡ k = omega arith in
    ap (λ x. x == 1) (ap (λ x. bit_at x (k + j)) e ∙ bit_at_cat_high a j 0 (k + j) (pow_pos j) (omega arith) ∙ ap (λ i. bit_at a i) d)

pub has_shl_below : (a j k : ℕ) → k < j → is_set (a * 2 ^ j) k ≡ false
unfolding is_set
has_shl_below a j k h =
    let e : a * 2 ^ j ≡ a * 2 ^ j + 0 = omega arith in
    ap (λ x. x == 1) (ap (λ x. bit_at x k) e ∙ bit_at_cat_low a j 0 k h ∙ bit_at-zero k)

pub has_zero : (k : ℕ) → is_set 0 k ≡ false
unfolding is_set
has_zero k = ap (λ x. x == 1) (bit_at-zero k)

pub has_first : (n k : ℕ) → k < n → is_set (2 ^ n - 1) k ≡ true
unfolding is_set
has_first n k h = ap (λ x. x == 1) (bit_at_ones n k h)

pub has_first_above : (n k : ℕ) → n ≤ k → is_set (2 ^ n - 1) k ≡ false
unfolding is_set
has_first_above n k h = ap (λ x. x == 1) (bit_at_ones_above n k h)

pub has_above : (n w k : ℕ) → n < 2 ^ w → w ≤ k → is_set n k ≡ false
unfolding is_set
has_above n w k h l = ap (λ x. x == 1) (bit_at_above n w k h l)

zero_bit : (x : ℕ) → x < 2 → (x == 1) ≡ false → x ≡ 0
zero_bit zero h e = refl
zero_bit (suc zero) h e = cc
zero_bit (suc (suc x)) h e = absurd (omega arith)

-- a number whose bits from w on are 0 is below 2 ^ w
pub below_from_places : (n w : ℕ) → ((k : ℕ) → w ≤ k → is_set n k ≡ false) → n < 2 ^ w
unfolding is_set
below_from_places n w h =
    let none : n / 2 ^ w ≡ 0 = same_from_bits (n / 2 ^ w) 0 (λ i.
    let e : bit_at (n / 2 ^ w) i ≡ bit_at n (w + i) = ap (λ x. x % 2) (shr-shr n w i) in
    e ∙ zero_bit (bit_at n (w + i)) (bit_at-lt n (w + i)) (h (w + i) (omega arith)) ∙ sym (bit_at-zero i)) in
    let low : n % 2 ^ w < 2 ^ w = mod_below n (2 ^ w) (pow_pos w) in
    let zero_high : n / 2 ^ w * 2 ^ w ≡ 0 = ap (λ x. x * 2 ^ w) none ∙ omega arith in
    omega (arith, shr_split n w, zero_high, low)
