-- Polynomials over GF(2) as numbers: bit i of a number is the coefficient of x^i. Their sum, which is also their difference, is the exclusive or.
use Rattle.std.specs.Prelude.{ℕ, zero, suc, ◌+◌, ◌*◌, ◌/◌, ◌%◌, ◌^◌, min, bit_xor}
use Rattle.std.specs.Int.{bit_at}

unfoldable pub xor_sum : ℕ → (ℕ → ℕ) → ℕ  -- f 0 xor f 1 xor .. xor f (n - 1)
xor_sum zero f = 0
xor_sum (suc n) f = bit_xor (f 0) (xor_sum n (λ i. f (suc i)))

-- the product of two polynomials: the exclusive or of a * 2^i for each bit i of b that is 1; a number b has at most b bits
unfoldable pub carryless : ℕ → ℕ → ℕ
carryless a b = xor_sum b (λ i. bit_at b i * (a * 2 ^ i))

-- long division of the `count` lowest bits of n, highest first: each is appended to the remainder so far, and the divisor is subtracted if that makes
-- the result smaller, which is if the degrees are equal
unfoldable pub remainder_from : ℕ → ℕ → ℕ → ℕ
remainder_from (suc count) divisor (suc m) =
    let r = 2 * remainder_from count divisor (suc m / 2) + suc m % 2 in min r (bit_xor r divisor)
remainder_from count divisor n = 0

unfoldable pub remainder : ℕ → ℕ → ℕ  -- the remainder of n after division by the divisor; a number n has at most n bits
remainder divisor n = remainder_from n divisor n
