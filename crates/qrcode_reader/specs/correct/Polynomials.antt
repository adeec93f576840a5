-- Polynomials over the field of bytes, as lists of coefficients, lowest first.
use Rattle.std.specs.Prelude.{◌≡◌, ℕ, ◌+◌, ◌*◌, ◌≤◌, List, ◌∷◌, length, slice_index, bit_xor}
use Rattle.qrcode_types.specs.Polynomials.{xor_sum}
use Rattle.qrcode_ec.specs.Field.{product, power}

unfoldable pub combined : List ℕ → (ℕ → ℕ) → ℕ → ℕ  -- the sum of the coefficients of f times the values from i on
combined f values i = xor_sum (length f) (λ j. product (slice_index f j) (values (i + j)))

abbrev pub value_at : List ℕ → ℕ → ℕ  -- the value of f at the l-th power of 2
value_at f l = combined f (λ j. power (l * j)) 0

abbrev pub EndsAt : List ℕ → ℕ → Type 0  -- the coefficients of f from n on are zero
EndsAt f n = (j : ℕ) → n ≤ j → slice_index f j ≡ 0

-- f divided by x - point has this quotient and rest
pub record IsDivision (f : List ℕ) (point : ℕ) (quotient : List ℕ) (rest : ℕ) : Type 0 where
  pub at : (j : ℕ) → slice_index f j ≡ bit_xor (slice_index (rest ∷ quotient) j) (product point (slice_index quotient j))
