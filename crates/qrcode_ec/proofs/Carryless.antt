-- Laws of the carryless product.
use Rattle.std.proofs.Common.{◌≡◌, ℕ, zero, suc, ◌*◌, ◌/◌, ◌%◌, ◌^◌, ◌<◌, ◌≤◌, refl, sym, ap, ap₂, ◌∙◌, arith}
use Rattle.std.proofs.Math.Arith.{bin_ind}
use Rattle.std.proofs.lemmas.Nat.Bits.{bit_at_lowest, bit_at-suc, bit_at_above}
use Rattle.std.specs.Int.{bit_at}
use Rattle.std.specs.Int.Bits.{bit_xor, xor_comm, xor_self, xor_zero_r}
use Rattle.qrcode_types.specs.Polynomials.{xor_sum, carryless}
use Rattle.qrcode_ec.proofs.Xor.{xor_four, xor_twice, xor_half, xor_odd, xor_split, xor_sum_same, xor_sum_map, xor_sum_more}

lt_pow : (n : ℕ) → n < 2 ^ n
lt_pow zero = omega arith
lt_pow (suc n) = omega (arith, lt_pow n)

-- ---- a bit times a number
pub zero_times : (x : ℕ) → 0 * x ≡ 0
zero_times x = omega arith

pub one_times : (x : ℕ) → 1 * x ≡ x
one_times x = omega arith

pub bit_mul : (c d x : ℕ) → c < 2 → d < 2 → bit_xor c d * x ≡ bit_xor (c * x) (d * x)
bit_mul zero d x p q = ap (λ y. bit_xor y (d * x)) (sym (zero_times x))
bit_mul (suc zero) zero x p q = one_times x ∙ sym (xor_zero_r x) ∙ (λ i. bit_xor (sym (one_times x) i) (sym (zero_times x) i))
bit_mul (suc zero) (suc zero) x p q = zero_times x ∙ sym (xor_self (1 * x))
bit_mul (suc zero) (suc (suc d)) x p q = absurd (omega arith)
bit_mul (suc (suc c)) d x p q = absurd (omega arith)

pub odd_mul : (a b x : ℕ) → bit_xor a b % 2 * x ≡ bit_xor (a % 2 * x) (b % 2 * x)
odd_mul a b x = ap (λ y. y * x) (xor_odd a b) ∙ bit_mul (a % 2) (b % 2) x (omega arith) (omega arith)

pub bit_mul_xor : (c a b : ℕ) → c < 2 → c * bit_xor a b ≡ bit_xor (c * a) (c * b)
bit_mul_xor zero a b p = zero_times (bit_xor a b) ∙ (λ i. bit_xor (sym (zero_times a) i) (sym (zero_times b) i))
bit_mul_xor (suc zero) a b p = one_times (bit_xor a b) ∙ (λ i. bit_xor (sym (one_times a) i) (sym (one_times b) i))
bit_mul_xor (suc (suc c)) a b p = absurd (omega arith)

shifted : (c a i : ℕ) → c * (a * 2 ^ suc i) ≡ c * (a * 2 ^ i) * 2
shifted c a i = let e : 2 ^ suc i ≡ 2 ^ i * 2 = omega arith in ap (λ x. c * (a * x)) e ∙ omega arith

-- ---- the product by the lowest bit of its second factor
pub carryless_step : (a b : ℕ) → carryless a b ≡ bit_xor (b % 2 * a) (carryless a (b / 2) * 2)
unfolding carryless xor_sum
carryless_step a zero = ap (λ x. bit_xor x 0) (sym (zero_times a))
carryless_step a (suc n) =
    let b = suc n in
    let term = λ (i : ℕ). bit_at (b / 2) i * (a * 2 ^ i) in
    let first : bit_at b 0 * (a * 2 ^ 0) ≡ b % 2 * a = ap₂ (λ x y. x * y) (bit_at_lowest b) (let e : a * 2 ^ 0 ≡ a = omega arith in e) in
    let each : (i : ℕ) → i < n → bit_at b (suc i) * (a * 2 ^ suc i) ≡ term i * 2 = λ i _. ap (λ x. x * (a * 2 ^ suc i)) (bit_at-suc b i) ∙ shifted (bit_at (b / 2) i) a i in
    let few : b / 2 ≤ n = omega arith in
    let high : (i : ℕ) → b / 2 ≤ i → term i ≡ 0 = λ i l. ap (λ x. x * (a * 2 ^ i)) (bit_at_above (b / 2) (b / 2) i (lt_pow (b / 2)) l) ∙ zero_times (a * 2 ^ i) in
    ap₂ bit_xor first (xor_sum_same n (λ i. bit_at b (suc i) * (a * 2 ^ suc i)) (λ i. term i * 2) each
    ∙ xor_sum_map (λ x. x * 2) refl (λ x y. xor_twice x y) n term ∙ ap (λ x. x * 2) (xor_sum_more (b / 2) n term few high))

-- ---- the product is a ring's
pub even : (b : ℕ) → b * 2 % 2 ≡ 0
even b = omega arith

pub half : (b : ℕ) → b * 2 / 2 ≡ b
half b = omega arith

pub carryless_twice : (a b : ℕ) → carryless a (b * 2) ≡ carryless a b * 2
carryless_twice a b =
    carryless_step a (b * 2) ∙ ap₂ (λ x y. bit_xor (x * a) (carryless a y * 2)) (even b) (half b)
    ∙ ap (λ x. bit_xor x (carryless a b * 2)) (zero_times a)

pub carryless_zero_r : (a : ℕ) → carryless a 0 ≡ 0
unfolding carryless xor_sum
carryless_zero_r a = refl

pub carryless_zero_l : (a : ℕ) → carryless 0 a ≡ 0
carryless_zero_l =
    bin_ind (λ (a : ℕ). carryless 0 a ≡ 0) (carryless_zero_r 0)
    (λ a ih. carryless_step 0 a ∙ ap₂ (λ x y. bit_xor x (y * 2)) (let e : a % 2 * 0 ≡ 0 = omega arith in e) ih)

pub carryless_xor_r : (a b c : ℕ) → carryless a (bit_xor b c) ≡ bit_xor (carryless a b) (carryless a c)
carryless_xor_r a b c =
    bin_ind (λ (b : ℕ). (c : ℕ) → carryless a (bit_xor b c) ≡ bit_xor (carryless a b) (carryless a c))
    (λ c. ap (λ x. bit_xor x (carryless a c)) (sym (carryless_zero_r a)))
    (λ b ih c.
    carryless_step a (bit_xor b c)
    ∙ ap₂ (λ x y. bit_xor x (y * 2)) (odd_mul b c a) (ap (carryless a) (xor_half b c) ∙ ih (c / 2))
    ∙ ap (bit_xor (bit_xor (b % 2 * a) (c % 2 * a))) (xor_twice (carryless a (b / 2)) (carryless a (c / 2)))
    ∙ xor_four (b % 2 * a) (c % 2 * a) (carryless a (b / 2) * 2) (carryless a (c / 2) * 2)
    ∙ ap₂ bit_xor (sym (carryless_step a b)) (sym (carryless_step a c)))
    b c

-- the product by the lowest bit of its first factor
spread : (d c x y z : ℕ) → d < 2 → c < 2
    → bit_xor (d * bit_xor (x * 2) c) (bit_xor (c * y) z * 2) ≡ bit_xor (bit_xor (d * x * 2) (d * c)) (bit_xor (c * y * 2) (z * 2))
spread d c x y z p q =
    ap₂ bit_xor (bit_mul_xor d (x * 2) c p ∙ ap (λ v. bit_xor v (d * c)) (let e : d * (x * 2) ≡ d * x * 2 = omega arith in e)) (xor_twice (c * y) z)

cross : (c d x y z : ℕ) → c < 2 → d < 2
    → bit_xor (d * bit_xor (x * 2) c) (bit_xor (c * y) z * 2) ≡ bit_xor (c * bit_xor (y * 2) d) (bit_xor (d * x) z * 2)
cross c d x y z p q =
    spread d c x y z q p
    ∙ xor_four (d * x * 2) (d * c) (c * y * 2) (z * 2)
    ∙ ap₂ bit_xor (xor_comm (d * x * 2) (c * y * 2)) (ap (λ v. bit_xor v (z * 2)) (let e : d * c ≡ c * d = omega arith in e))
    ∙ xor_four (c * y * 2) (d * x * 2) (c * d) (z * 2)
    ∙ sym (spread c d y x z p q)

carryless_step_l : (a b : ℕ) → carryless a b ≡ bit_xor (a % 2 * b) (carryless (a / 2) b * 2)
carryless_step_l a =
    bin_ind (λ (b : ℕ). carryless a b ≡ bit_xor (a % 2 * b) (carryless (a / 2) b * 2))
    (carryless_zero_r a ∙ (λ i. bit_xor (sym (let e : a % 2 * 0 ≡ 0 = omega arith in e) i) (sym (carryless_zero_r (a / 2)) i * 2)))
    (λ b ih.
    carryless_step a b ∙ ap (λ x. bit_xor (b % 2 * a) (x * 2)) ih
    ∙ ap (λ x. bit_xor (b % 2 * x) (bit_xor (a % 2 * (b / 2)) (carryless (a / 2) (b / 2) * 2) * 2)) (xor_split a)
    ∙ cross (a % 2) (b % 2) (a / 2) (b / 2) (carryless (a / 2) (b / 2) * 2) (omega arith) (omega arith)
    ∙ ap (λ x. bit_xor (a % 2 * x) (bit_xor (b % 2 * (a / 2)) (carryless (a / 2) (b / 2) * 2) * 2)) (sym (xor_split b))
    ∙ ap (λ x. bit_xor (a % 2 * b) (x * 2)) (sym (carryless_step (a / 2) b)))

pub carryless_comm : (a b : ℕ) → carryless a b ≡ carryless b a
carryless_comm a =
    bin_ind (λ (b : ℕ). carryless a b ≡ carryless b a) (carryless_zero_r a ∙ sym (carryless_zero_l a))
    (λ b ih. carryless_step a b ∙ ap (λ x. bit_xor (b % 2 * a) (x * 2)) ih ∙ sym (carryless_step_l b a))

pub carryless_xor_l : (a b c : ℕ) → carryless (bit_xor a b) c ≡ bit_xor (carryless a c) (carryless b c)
carryless_xor_l a b c = carryless_comm (bit_xor a b) c ∙ carryless_xor_r c a b ∙ ap₂ bit_xor (carryless_comm c a) (carryless_comm c b)

carryless_bit : (a c b : ℕ) → c < 2 → carryless a (c * b) ≡ c * carryless a b
carryless_bit a zero b p = ap (carryless a) (zero_times b) ∙ carryless_zero_r a ∙ sym (zero_times (carryless a b))
carryless_bit a (suc zero) b p = ap (carryless a) (one_times b) ∙ sym (one_times (carryless a b))
carryless_bit a (suc (suc c)) b p = absurd (omega arith)

pub carryless_assoc : (a b c : ℕ) → carryless (carryless a b) c ≡ carryless a (carryless b c)
carryless_assoc a b =
    bin_ind (λ (c : ℕ). carryless (carryless a b) c ≡ carryless a (carryless b c))
    (carryless_zero_r (carryless a b) ∙ sym (carryless_zero_r a) ∙ ap (carryless a) (sym (carryless_zero_r b)))
    (λ c ih.
    carryless_step (carryless a b) c
    ∙ ap₂ (λ x y. bit_xor x (y * 2)) (sym (carryless_bit a (c % 2) b (omega arith))) ih
    ∙ ap (bit_xor (carryless a (c % 2 * b))) (sym (carryless_twice a (carryless b (c / 2))))
    ∙ sym (carryless_xor_r a (c % 2 * b) (carryless b (c / 2) * 2))
    ∙ ap (carryless a) (sym (carryless_step b c)))
