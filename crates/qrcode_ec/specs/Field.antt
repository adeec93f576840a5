-- GF(2^8): bytes as polynomials modulo x^8 + x^4 + x^3 + x^2 + 1.
use Rattle.std.specs.Prelude.{◌≡◌, ℕ, zero, suc, ◌<◌, bit_xor}
use Rattle.qrcode_types.specs.Polynomials.{carryless, remainder}

abbrev pub modulus : ℕ  -- the divisor of products
modulus = 0x11d

-- p is the product of a and b: a byte that differs from their carryless product by a carryless multiple of the modulus
pub record IsProduct (a b p : ℕ) : Type 0 where
  pub byte : p < 256
  pub quotient : ℕ
  pub differs : bit_xor (carryless a b) p ≡ carryless quotient modulus

unfoldable pub product : ℕ → ℕ → ℕ  -- the product of two bytes; 0x11d is x^8 + x^4 + x^3 + x^2 + 1
product a b = remainder 0x11d (carryless a b)

unfoldable pub power : ℕ → ℕ  -- the powers of 2, which is x
power zero = 1
power (suc e) = product 2 (power e)

-- the product p of a and b obeys the laws of a field: it is commutative, associative, and distributive over the sum
pub record HasFieldLaws (a b p : ℕ) : Type 0 where
  pub commutes : p ≡ product b a
  pub associates : (c : ℕ) → product p c ≡ product a (product b c)
  pub distributes : (c : ℕ) → product a (bit_xor b c) ≡ bit_xor p (product a c)
