-- The powers of 2 in the field. The tables of the code hold them, and their exponents.
use Rattle.std.proofs.Common.{◌*◌, ◌/◌, ◌%◌, ◌≡◌, ℕ, zero, suc, ◌+◌, ◌-◌, ◌<◌, ◌==◌, nat_lt, ◌&&◌, refl, sym, ap, subst, ◌∙◌, arith, Bool, true, get_or}
use Rattle.std.proofs.lemmas.Bool.{agree_below, agree_below_at, and_parts, eqb-true, ltb-true}
use Rattle.qrcode_ec.specs.Field.{product, power}
use Rattle.qrcode_ec.specs.declared.field.TheConstants.{POWERS, LOGARITHMS}
use Rattle.qrcode_ec.proofs.Products.{times_x, product_lt, product_assoc, product_zero_r, product_one_r, product_one_l, product_two}

unfoldable pub pow : ℕ → ℕ
pow zero = 1
pow (suc e) = times_x (pow e)

pub power_lt : (e : ℕ) → power e < 256
unfolding power
power_lt zero = omega arith
power_lt (suc e) = product_lt 2 (power e)

power_next : (e : ℕ) → power (suc e) ≡ times_x (power e)
unfolding power
power_next e = product_two (power e) (power_lt e)

pub power_is : (e : ℕ) → power e ≡ pow e
unfolding power pow
power_is zero = refl
power_is (suc e) = power_next e ∙ ap times_x (power_is e)

pub power_zero : power 0 ≡ 1
unfolding power
power_zero = refl

pub power_add : (i j : ℕ) → power (i + j) ≡ product (power i) (power j)
unfolding power
power_add zero j = ap power (let z : 0 + j ≡ j = omega arith in z) ∙ sym (product_one_l (power j) (power_lt j))
power_add (suc i) j =
    ap power (let z : suc i + j ≡ suc (i + j) = omega arith in z) ∙ ap (product 2) (power_add i j) ∙ sym (product_assoc 2 (power i) (power j))

-- ---- the tables
-- each entry is the one before it times x, and the last one times x is 1
nexts : agree_below (λ e. get_or POWERS (suc e) 0 == times_x (get_or POWERS e 0)) (λ e. true) 254 ≡ true
unfolding times_x
nexts = refl

last : times_x (get_or POWERS 254 0) ≡ 1
unfolding times_x
last = refl

pub power_at : (e : ℕ) → e < 255 → get_or POWERS e 0 ≡ power e
power_at zero l = sym power_zero
power_at (suc e) l =
    eqb-true _ _ (agree_below_at (λ e. get_or POWERS (suc e) 0 == times_x (get_or POWERS e 0)) (λ e. true) 254 e nexts (omega arith))
    ∙ ap times_x (power_at e (omega arith)) ∙ sym (power_next e)

power_255 : power 255 ≡ 1
power_255 = power_next 254 ∙ ap times_x (sym (power_at 254 (omega arith))) ∙ last

-- `LOGARITHMS` has the exponent of each power, and `POWERS` the power of each exponent
abbrev is_exponent : ℕ → Bool
is_exponent e = get_or LOGARITHMS (get_or POWERS e 0) 0 == e

abbrev is_logarithm : ℕ → Bool
is_logarithm b = nat_lt (get_or LOGARITHMS (suc b) 0) 255 && get_or POWERS (get_or LOGARITHMS (suc b) 0) 0 == suc b

exponents : agree_below is_exponent (λ e. true) 255 ≡ true
exponents = refl

logarithms : agree_below is_logarithm (λ b. true) 255 ≡ true
logarithms = refl

pub power_injective : (i j : ℕ) → i < 255 → j < 255 → power i ≡ power j → i ≡ j
power_injective i j l m same =
    sym (at i l) ∙ ap (λ p. get_or LOGARITHMS p 0) (power_at i l ∙ same ∙ sym (power_at j m)) ∙ at j m
  where
    at : (e : ℕ) → e < 255 → get_or LOGARITHMS (get_or POWERS e 0) 0 ≡ e
    at e l = eqb-true _ _ (agree_below_at is_exponent (λ e. true) 255 e exponents l)

pub logarithm_at : (b : ℕ) → 0 < b → b < 256 → (get_or LOGARITHMS b 0 < 255) × (power (get_or LOGARITHMS b 0) ≡ b)
logarithm_at zero p l = absurd (omega arith)
logarithm_at (suc b) p l =
    let test = and_parts _ _ (agree_below_at is_logarithm (λ b. true) 255 b logarithms (omega arith)) in
    let less = ltb-true _ _ test.0 in
    (less, sym (power_at (get_or LOGARITHMS (suc b) 0) less) ∙ eqb-true _ _ test.1)

-- ---- what follows
-- a byte has an inverse, so that no product of others is zero
inverse : (b : ℕ) → 0 < b → b < 256 → (c : ℕ) × (product c b ≡ 1)
inverse b p l =
    let k = get_or LOGARITHMS b 0 in
    let e = logarithm_at b p l in
    let back : 255 - k + k ≡ 255 = omega (arith, e.0) in
    (power (255 - k), ap (product (power (255 - k))) (sym e.1) ∙ sym (power_add (255 - k) k) ∙ ap power back ∙ power_255)

pub no_zero_divisor : (a b : ℕ) → 0 < a → a < 256 → b < 256 → product a b ≡ 0 → b ≡ 0
no_zero_divisor a b p q s h =
    let c = inverse a p q in
    sym (product_one_l b s) ∙ ap (λ x. product x b) (sym c.1) ∙ product_assoc c.0 a b ∙ ap (product c.0) h ∙ product_zero_r c.0

power_cycle : (e k : ℕ) → power (e + k * 255) ≡ power e
power_cycle e zero = ap power (let z : e + 0 * 255 ≡ e = omega arith in z)
power_cycle e (suc k) =
    ap power (let z : e + suc k * 255 ≡ e + k * 255 + 255 = omega arith in z) ∙ power_add (e + k * 255) 255
    ∙ ap (product (power (e + k * 255))) power_255 ∙ product_one_r (power (e + k * 255)) (power_lt (e + k * 255)) ∙ power_cycle e k

pub power_mod : (e : ℕ) → power (e % 255) ≡ power e
power_mod e = sym (power_cycle (e % 255) (e / 255)) ∙ ap power (let z : e % 255 + e / 255 * 255 ≡ e = omega arith in z)

some : agree_below (λ e. nat_lt 0 (get_or POWERS e 0)) (λ e. true) 255 ≡ true
some = refl

pub power_pos : (e : ℕ) → 0 < power e
power_pos e = subst (λ p. 0 < p) (power_at (e % 255) (omega arith) ∙ power_mod e)
    (ltb-true _ _ (agree_below_at (λ e. nat_lt 0 (get_or POWERS e 0)) (λ e. true) 255 (e % 255) some (omega arith)))
