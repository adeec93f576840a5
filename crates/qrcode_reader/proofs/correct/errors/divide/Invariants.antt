use Rattle.std.proofs.Common.{◌≡◌, ℕ, suc, ◌+◌, ◌-◌, ◌<◌, ◌≤◌, get_or, length, bit_xor}
use Rattle.qrcode_ec.specs.Field.{product}
use Rattle.qrcode_reader.proofs.correct.errors.divide.Given as goal

abbrev pub invariant-loop-i : goal.invariant-loop-i
invariant-loop-i l = record {
  long : length l.quotient ≡ 72;
  lowest : get_or l.coefficients (l.degree + 1 - l.i) 0 ≡ bit_xor l.rest (product l.point (get_or l.quotient (l.degree + 1 - l.i) 0));
  others : (j : ℕ) → l.degree < j + l.i → get_or l.coefficients (suc j) 0 ≡ bit_xor (get_or l.quotient j 0) (product l.point (get_or l.quotient (suc j) 0));
  ends : (j : ℕ) → l.degree ≤ j → get_or l.quotient j 0 ≡ 0;
  first : l.i ≡ 0 → l.rest ≡ 0;
}
