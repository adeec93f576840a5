-- The remainder of a polynomial, and the laws of the product in the field.
use Rattle.std.proofs.Common.{◌≡◌, ℕ, zero, suc, ◌+◌, ◌-◌, ◌*◌, ◌/◌, ◌%◌, ◌^◌, ◌<◌, ◌≤◌, min, refl, sym, ap, ap₂, ◌∙◌, arith, subst, inl, inr}
use Rattle.std.proofs.lemmas.Bool.{cases_lt}
use Rattle.std.proofs.Math.Arith.{bin_ind}
use Rattle.std.specs.Int.Bits.{bit_xor, xor_assoc, xor_comm, xor_self, xor_zero_r, xor_block, xor_shr, xor_lt}
use Rattle.qrcode_types.specs.Polynomials.{carryless, remainder_from, remainder}
use Rattle.qrcode_ec.specs.Field.{modulus, IsProduct, HasFieldLaws, product}
use Rattle.qrcode_ec.proofs.Xor.{xor_four, xor_twice, xor_half, xor_odd, xor_split}
use Rattle.qrcode_ec.proofs.Carryless.{zero_times, one_times, even, half, bit_mul, carryless_step, carryless_twice, carryless_zero_r, carryless_zero_l, carryless_xor_r, carryless_xor_l, carryless_comm, carryless_assoc}

-- ---- one step
-- a byte p times x
unfoldable pub times_x : ℕ → ℕ
times_x p = bit_xor (p * 2) (p / 128 * 0x11d)

high_bit : (h r : ℕ) → h < 2 → r < 128 → bit_xor ((h * 128 + r) * 2) (h * 0x11d) < 256
high_bit zero r p q =
    let e : (0 * 128 + r) * 2 ≡ r * 2 = omega arith in
    let l : r * 2 < 256 = omega arith in
    subst (λ x. x < 256) (sym (ap (λ x. bit_xor x 0) e ∙ xor_zero_r (r * 2))) l
high_bit (suc zero) r p q =
    let a : (1 * 128 + r) * 2 ≡ 1 * 2 ^ 8 + r * 2 = omega arith in
    let l : r * 2 < 2 ^ 8 = omega arith in
    let m : 29 < 2 ^ 8 = omega arith in
    let e = xor_block 8 1 1 (r * 2) 29 l m in
    let z : bit_xor (r * 2) 29 < 256 = xor_lt 8 (r * 2) 29 l m in
    subst (λ x. x < 256) (sym (ap (λ x. bit_xor x 0x11d) a ∙ e)) (let w : 0 + bit_xor (r * 2) 29 < 256 = omega arith in w)
high_bit (suc (suc h)) r p q = absurd (omega arith)

pub times_x_lt : (p : ℕ) → p < 256 → times_x p < 256
unfolding times_x
times_x_lt p l =
    let e : p / 128 * 128 + p % 128 ≡ p = omega arith in
    subst (λ x. bit_xor (x * 2) (p / 128 * 0x11d) < 256) e (high_bit (p / 128) (p % 128) (omega arith) (omega arith))

pub times_x_xor : (p q : ℕ) → p < 256 → q < 256 → times_x (bit_xor p q) ≡ bit_xor (times_x p) (times_x q)
unfolding times_x
times_x_xor p q l m =
    ap₂ bit_xor (xor_twice p q) (ap (λ x. x * 0x11d) (xor_shr p q 7) ∙ bit_mul (p / 128) (q / 128) 0x11d (omega arith) (omega arith))
    ∙ xor_four (p * 2) (q * 2) (p / 128 * 0x11d) (q / 128 * 0x11d)

pub times_x_small : (p : ℕ) → p < 128 → times_x p ≡ p * 2
unfolding times_x
times_x_small p l = let e : p / 128 ≡ 0 = omega arith in ap (λ x. bit_xor (p * 2) (x * 0x11d)) e ∙ xor_zero_r (p * 2)

-- ---- the remainder
-- the remainder of n in the field
abbrev pub residue : ℕ → ℕ
residue n = remainder modulus n

with_bit : (p c : ℕ) → c < 2 → bit_xor (p * 2) c ≡ 2 * p + c
with_bit p c l =
    let a : p * 2 ≡ p * 2 ^ 1 + 0 = omega arith in
    let b : c ≡ 0 * 2 ^ 1 + c = omega arith in
    ap₂ bit_xor a b ∙ xor_block 1 p 0 0 c (omega arith) (omega arith) ∙ ap (λ x. x * 2 ^ 1 + c) (xor_zero_r p) ∙ omega arith

-- a number, minus the divisor if that makes it smaller
abbrev reduced : ℕ → ℕ → ℕ
reduced divisor n = min n (bit_xor n divisor)

-- one step of long division: a byte times x, and the next bit
reduced_is : (p c : ℕ) → p < 256 → c < 2 → reduced modulus (2 * p + c) ≡ bit_xor (times_x p) c
unfolding times_x
reduced_is p c l m =
    let n = 2 * p + c in
    let moved : bit_xor (times_x p) c ≡ bit_xor n (p / 128 * 0x11d) =
    xor_assoc (p * 2) (p / 128 * 0x11d) c ∙ ap (bit_xor (p * 2)) (xor_comm (p / 128 * 0x11d) c) ∙ sym (xor_assoc (p * 2) c (p / 128 * 0x11d))
    ∙ ap (λ x. bit_xor x (p / 128 * 0x11d)) (with_bit p c m) in
    elim (cases_lt p 128) [
      | inl low ↦
          let high : p / 128 ≡ 0 = omega arith in
          let a : n ≡ 0 * 2 ^ 8 + n = omega arith in
          let less = ap (λ x. bit_xor x 0x11d) a ∙ xor_block 8 0 1 n 29 (omega arith) (omega arith) in
          let kept : reduced modulus n ≡ n = omega (arith, less) in
          kept ∙ sym (moved ∙ ap (λ x. bit_xor n (x * 0x11d)) high ∙ xor_zero_r n)
      | inr top ↦
          let high : p / 128 ≡ 1 = omega arith in
          let s = n - 256 in
          let a : n ≡ 1 * 2 ^ 8 + s = omega arith in
          let less = ap (λ x. bit_xor x 0x11d) a ∙ xor_block 8 1 1 s 29 (omega arith) (omega arith) in
          let byte = xor_lt 8 s 29 (omega arith) (omega arith) in
          let taken : reduced modulus n ≡ bit_xor n 0x11d = omega (arith, less, byte) in
          taken ∙ sym (moved ∙ ap (λ x. bit_xor n (x * 0x11d)) high)
    ]

remainder_same : (j k n : ℕ) → n ≤ j → n ≤ k → remainder_from j modulus n ≡ remainder_from k modulus n
unfolding remainder_from
remainder_same zero zero n p q = refl
remainder_same zero (suc k) zero p q = refl
remainder_same zero (suc k) (suc n) p q = absurd (omega arith)
remainder_same (suc j) zero zero p q = refl
remainder_same (suc j) zero (suc n) p q = absurd (omega arith)
remainder_same (suc j) (suc k) zero p q = refl
remainder_same (suc j) (suc k) (suc n) p q =
    ap (λ x. reduced modulus (2 * x + suc n % 2)) (remainder_same j k (suc n / 2) (omega arith) (omega arith))

long_division : (n : ℕ) → residue n ≡ reduced modulus (2 * residue (n / 2) + n % 2)
unfolding remainder remainder_from
long_division zero = refl
long_division (suc m) = ap (λ x. reduced modulus (2 * x + suc m % 2)) (remainder_same m (suc m / 2) (suc m / 2) (omega arith) (omega arith))

pub remainder_zero : residue 0 ≡ 0
unfolding remainder remainder_from
remainder_zero = refl

pub remainder_lt : (n : ℕ) → residue n < 256
remainder_lt =
    bin_ind (λ (n : ℕ). residue n < 256) (subst (λ x. x < 256) (sym remainder_zero) (omega arith))
    (λ n ih.
    subst (λ x. x < 256) (sym (long_division n ∙ reduced_is (residue (n / 2)) (n % 2) ih (omega arith)))
    (xor_lt 8 (times_x (residue (n / 2))) (n % 2) (times_x_lt (residue (n / 2)) ih) (omega arith)))

pub remainder_step : (n : ℕ) → residue n ≡ bit_xor (times_x (residue (n / 2))) (n % 2)
remainder_step n = long_division n ∙ reduced_is (residue (n / 2)) (n % 2) (remainder_lt (n / 2)) (omega arith)

pub remainder_xor : (a b : ℕ) → residue (bit_xor a b) ≡ bit_xor (residue a) (residue b)
remainder_xor =
    bin_ind (λ (a : ℕ). (b : ℕ) → residue (bit_xor a b) ≡ bit_xor (residue a) (residue b))
    (λ b. ap (λ x. bit_xor x (residue b)) (sym remainder_zero))
    (λ a ih b.
    remainder_step (bit_xor a b)
    ∙ ap₂ (λ x y. bit_xor (times_x x) y) (ap residue (xor_half a b) ∙ ih (b / 2)) (xor_odd a b)
    ∙ ap (λ x. bit_xor x (bit_xor (a % 2) (b % 2))) (times_x_xor (residue (a / 2)) (residue (b / 2)) (remainder_lt (a / 2)) (remainder_lt (b / 2)))
    ∙ xor_four (times_x (residue (a / 2))) (times_x (residue (b / 2))) (a % 2) (b % 2)
    ∙ ap₂ bit_xor (sym (remainder_step a)) (sym (remainder_step b)))

pub remainder_twice : (n : ℕ) → residue (n * 2) ≡ times_x (residue n)
remainder_twice n =
    remainder_step (n * 2) ∙ ap₂ (λ x y. bit_xor (times_x (residue x)) y) (half n) (even n) ∙ xor_zero_r (times_x (residue n))

pub remainder_small : (n : ℕ) → n < 256 → residue n ≡ n
remainder_small =
    bin_ind (λ (n : ℕ). n < 256 → residue n ≡ n) (λ _. remainder_zero)
    (λ n ih l.
    remainder_step n ∙ ap (λ x. bit_xor (times_x x) (n % 2)) (ih (omega arith))
    ∙ ap (λ x. bit_xor x (n % 2)) (times_x_small (n / 2) (omega arith)) ∙ sym (xor_split n))

-- ---- the product
pub product_lt : (a b : ℕ) → product a b < 256
unfolding product
product_lt a b = remainder_lt (carryless a b)

remainder_bit : (c a : ℕ) → c < 2 → residue (c * a) ≡ c * residue a
remainder_bit zero a p = ap residue (zero_times a) ∙ remainder_zero ∙ sym (zero_times (residue a))
remainder_bit (suc zero) a p = ap residue (one_times a) ∙ sym (one_times (residue a))
remainder_bit (suc (suc c)) a p = absurd (omega arith)

pub product_step : (a b : ℕ) → product a b ≡ bit_xor (b % 2 * residue a) (times_x (product a (b / 2)))
unfolding product
product_step a b =
    ap residue (carryless_step a b) ∙ remainder_xor (b % 2 * a) (carryless a (b / 2) * 2)
    ∙ ap₂ bit_xor (remainder_bit (b % 2) a (omega arith)) (remainder_twice (carryless a (b / 2)))

pub product_zero_r : (a : ℕ) → product a 0 ≡ 0
unfolding product
product_zero_r a = ap residue (carryless_zero_r a) ∙ remainder_zero

pub product_zero_l : (a : ℕ) → product 0 a ≡ 0
unfolding product
product_zero_l a = ap residue (carryless_zero_l a) ∙ remainder_zero

pub product_comm : (a b : ℕ) → product a b ≡ product b a
unfolding product
product_comm a b = ap residue (carryless_comm a b)

pub product_remainder_l : (a b : ℕ) → product (residue a) b ≡ product a b
product_remainder_l a =
    bin_ind (λ (b : ℕ). product (residue a) b ≡ product a b) (product_zero_r (residue a) ∙ sym (product_zero_r a))
    (λ b ih.
    product_step (residue a) b
    ∙ ap₂ (λ x y. bit_xor (b % 2 * x) (times_x y)) (remainder_small (residue a) (remainder_lt a)) ih ∙ sym (product_step a b))

pub product_remainder_r : (a b : ℕ) → product a (residue b) ≡ product a b
product_remainder_r a b = product_comm a (residue b) ∙ product_remainder_l b a ∙ product_comm b a

pub product_assoc : (a b c : ℕ) → product (product a b) c ≡ product a (product b c)
unfolding product
product_assoc a b c =
    product_remainder_l (carryless a b) c ∙ ap residue (carryless_assoc a b c) ∙ sym (product_remainder_r a (carryless b c))

pub product_xor_r : (a b c : ℕ) → product a (bit_xor b c) ≡ bit_xor (product a b) (product a c)
unfolding product
product_xor_r a b c = ap residue (carryless_xor_r a b c) ∙ remainder_xor (carryless a b) (carryless a c)

pub product_xor_l : (a b c : ℕ) → product (bit_xor a b) c ≡ bit_xor (product a c) (product b c)
unfolding product
product_xor_l a b c = ap residue (carryless_xor_l a b c) ∙ remainder_xor (carryless a c) (carryless b c)

carryless_one : (a : ℕ) → carryless a 1 ≡ a
carryless_one a = carryless_step a 1 ∙ ap₂ (λ x y. bit_xor x (y * 2)) (one_times a) (carryless_zero_r a) ∙ xor_zero_r a

pub product_one_r : (a : ℕ) → a < 256 → product a 1 ≡ a
unfolding product
product_one_r a l = ap residue (carryless_one a) ∙ remainder_small a l

pub product_one_l : (a : ℕ) → a < 256 → product 1 a ≡ a
product_one_l a l = product_comm 1 a ∙ product_one_r a l

pub product_two : (a : ℕ) → a < 256 → product 2 a ≡ times_x a
product_two a l =
    product_comm 2 a ∙ product_step a 2
    ∙ ap₂ (λ x y. bit_xor x (times_x y)) (zero_times (residue a)) (product_one_r a l)

-- ---- the product is the one number that `IsProduct` describes
quotient_bit : (t m : ℕ) → t < 2 → carryless t m ≡ t * m
quotient_bit zero m p = carryless_zero_l m ∙ sym (zero_times m)
quotient_bit (suc zero) m p = carryless_comm 1 m ∙ carryless_one m ∙ sym (one_times m)
quotient_bit (suc (suc t)) m p = absurd (omega arith)

quotient_step : (n q r : ℕ) → r < 256 → residue n ≡ bit_xor (times_x r) (n % 2) → bit_xor (n / 2) r ≡ carryless q 0x11d
    → bit_xor n (residue n) ≡ carryless (bit_xor (q * 2) (r / 128)) 0x11d
unfolding times_x
quotient_step n q r l e h =
    ap₂ bit_xor (xor_split n) e
    ∙ xor_four (n / 2 * 2) (n % 2) (times_x r) (n % 2)
    ∙ ap (bit_xor (bit_xor (n / 2 * 2) (times_x r))) (xor_self (n % 2))
    ∙ xor_zero_r (bit_xor (n / 2 * 2) (times_x r))
    ∙ sym (xor_assoc (n / 2 * 2) (r * 2) (r / 128 * 0x11d))
    ∙ ap (λ x. bit_xor x (r / 128 * 0x11d)) (sym (xor_twice (n / 2) r) ∙ ap (λ x. x * 2) h)
    ∙ ap₂ bit_xor (sym (carryless_twice 0x11d q ∙ ap (λ x. x * 2) (carryless_comm 0x11d q)) ∙ carryless_comm 0x11d (q * 2)) (sym (quotient_bit (r / 128) 0x11d (omega arith)))
    ∙ sym (carryless_xor_l (q * 2) (r / 128) 0x11d)

quotient : (n : ℕ) → (q : ℕ) × (bit_xor n (residue n) ≡ carryless q 0x11d)
quotient =
    bin_ind (λ (n : ℕ). (q : ℕ) × (bit_xor n (residue n) ≡ carryless q 0x11d))
    (0, remainder_zero ∙ sym (carryless_zero_l 0x11d))
    (λ n h. (bit_xor (h.0 * 2) (residue (n / 2) / 128), quotient_step n h.0 (residue (n / 2)) (remainder_lt (n / 2)) (remainder_step n) h.1))

pub product_is : (a b : ℕ) → IsProduct a b (product a b)
unfolding product
product_is a b = let q = quotient (carryless a b) in record { byte = remainder_lt (carryless a b); quotient = q.0; differs = q.1 }

pub product_laws : (a b : ℕ) → HasFieldLaws a b (product a b)
product_laws a b = record { commutes = product_comm a b; associates = product_assoc a b; distributes = product_xor_r a b }

pub product_swap : (a b c : ℕ) → product a (product b c) ≡ product b (product a c)
product_swap a b c = sym (product_assoc a b c) ∙ ap (λ x. product x c) (product_comm a b) ∙ product_assoc b a c

-- the product by the low four bits of a factor and by the others
pub product_halves : (f a : ℕ) → bit_xor (product (f % 16 * 1) a) (product (f / 16 * 16) a) ≡ product f a
product_halves f a =
    let low : f % 16 * 1 ≡ 0 * 2 ^ 4 + f % 16 = omega arith in
    let high : f / 16 * 16 ≡ f / 16 * 2 ^ 4 + 0 = omega arith in
    let whole : (bit_xor 0 (f / 16)) * 2 ^ 4 + bit_xor (f % 16) 0 ≡ f = ap₂ (λ x y. x * 2 ^ 4 + y) (xor_comm 0 (f / 16) ∙ xor_zero_r (f / 16)) (xor_zero_r (f % 16)) ∙ omega arith in
    sym (product_xor_l (f % 16 * 1) (f / 16 * 16) a)
    ∙ ap (λ x. product x a) (ap₂ bit_xor low high ∙ xor_block 4 0 (f / 16) (f % 16) 0 (omega arith) (omega arith) ∙ whole)
