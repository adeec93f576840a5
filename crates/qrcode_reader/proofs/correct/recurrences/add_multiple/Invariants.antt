use Rattle.std.proofs.Common.{◌≡◌, ℕ, ◌<◌, ◌≤◌, get_or, length, bit_xor}
use Rattle.qrcode_ec.specs.Field.{product}
use Rattle.qrcode_reader.proofs.correct.recurrences.add_multiple.Given as goal

abbrev pub invariant-loop-j : goal.invariant-loop-j
invariant-loop-j l = record {
  long : length l.coefficients ≡ 72;
  below : (j : ℕ) → j < l.j → get_or l.coefficients j 0 ≡ bit_xor (get_or l.initial.coefficients j 0) (product l.factor (get_or l.other j 0));
  behind : (j : ℕ) → l.j ≤ j → get_or l.coefficients j 0 ≡ get_or l.initial.coefficients j 0;
}
