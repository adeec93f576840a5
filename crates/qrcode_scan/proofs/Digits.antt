-- Numbers in digits.
use Rattle.std.proofs.Common.{ℕ, ◌+◌, ◌-◌, ◌*◌, ◌≤◌, List, [], ◌∷◌, true, false, if◌then◌else◌, arith}
use Rattle.qrcode_types.specs.Characters.{is_digit}
use Rattle.qrcode_scan.specs.Heads.{digits_from}

-- a number with more digits is at least as large
pub grows : (n : ℕ) (bytes : List ℕ) → n ≤ (digits_from n bytes).0
unfolding digits_from
grows n [] = omega arith
grows n (c ∷ rest) = elim (is_digit c) as (λ t. n ≤ (if t then digits_from (10 * n + (c - 48)) rest else (n, c ∷ rest)).0) [
  | true ↦ omega (arith, grows (10 * n + (c - 48)) rest)
  | false ↦ omega arith
]
