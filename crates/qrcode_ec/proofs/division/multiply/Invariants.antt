use Rattle.std.proofs.Common.{◌≡◌, ℕ, ◌<◌, ◌≤◌, ◌∷◌, get_or, bit_xor}
use Rattle.qrcode_ec.specs.Field.{product}
use Rattle.qrcode_ec.proofs.division.multiply.Given as goal

abbrev pub invariant-loop-i : goal.invariant-loop-i
invariant-loop-i l = record {
  last : l.previous ≡ get_or (1 ∷ l.initial.coefficients) l.i 0;
  below : (j : ℕ) → j < l.i → get_or l.coefficients j 0 ≡ bit_xor (get_or l.initial.coefficients j 0) (product l.root (get_or (1 ∷ l.initial.coefficients) j 0));
  behind : (j : ℕ) → l.i ≤ j → get_or l.coefficients j 0 ≡ get_or l.initial.coefficients j 0;
}
