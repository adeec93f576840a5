-- A syndrome of a list, computed in few steps.
use Rattle.std.proofs.Common.{◌≡◌, ℕ, zero, suc, ◌*◌, ◌/◌, ◌%◌, ◌^◌, ◌<◌, ◌==◌, true, List, [], ◌∷◌, length, ap, ap₂, ◌∙◌, arith}
use Rattle.std.specs.Prelude.{bit_xor}
use Rattle.std.specs.List.{range_with_len, list_all}
use Rattle.std.proofs.lemmas.Bool.{eqb-true}
use Rattle.qrcode_types.specs.Bits.{AreBytes}
use Rattle.qrcode_ec.specs.Field.{product, power}
use Rattle.qrcode_ec.specs.Codes.{syndrome, Vanishes}
use Rattle.qrcode_ec.proofs.Products.{times_x, product_step, product_zero_r, remainder_small}
use Rattle.qrcode_ec.proofs.Powers.{pow, power_is, power_lt}
use Rattle.qrcode_ec.proofs.Syndromes.{syndrome_cons, syndrome_nil}
use Rattle.qrcode_facts.proofs.Below.{below}

-- the product of a byte a and a number b of n bits, bit by bit
unfoldable pub times : ℕ → ℕ → ℕ → ℕ
times zero a b = 0
times (suc n) a b = bit_xor (b % 2 * a) (times_x (times n a (b / 2)))

-- the value of the list, as a polynomial, at the i-th power of 2
unfoldable pub value : ℕ → List ℕ → ℕ
value i [] = 0
value i (c ∷ cs) = bit_xor (times 8 c (pow (i * length cs))) (value i cs)

times_is : (n a b : ℕ) → a < 256 → b < 2 ^ n → product a b ≡ times n a b
unfolding times
times_is zero a b small l = ap (product a) (let z : b ≡ 0 = omega (arith, l) in z) ∙ product_zero_r a
times_is (suc n) a b small l =
    let half : b / 2 < 2 ^ n = omega (arith, l) in
    product_step a b ∙ ap₂ (λ r q. bit_xor (b % 2 * r) (times_x q)) (remainder_small a small) (times_is n a (b / 2) small half)

value_is : (i : ℕ) (c : List ℕ) → AreBytes c → syndrome i c ≡ value i c
unfolding value
value_is i [] h = syndrome_nil i
value_is i (c ∷ cs) h =
    syndrome_cons i c cs
    ∙ ap₂ bit_xor (times_is 8 c (power (i * length cs)) h.0 (power_lt (i * length cs)) ∙ ap (times 8 c) (power_is (i * length cs))) (value_is i cs h.1)

-- a list whose first n values are zero vanishes
pub vanishes_by_values : (c : List ℕ) (n : ℕ) → AreBytes c → list_all (λ i. value i c == 0) (range_with_len 0 n) ≡ true → Vanishes c n
vanishes_by_values c n h zeros = λ i lt. value_is i c h ∙ eqb-true _ _ (below (λ j. value j c == 0) n zeros i lt)
