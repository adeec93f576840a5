use Rattle.std.proofs.Common.{◌≡◌, ℕ, ◌+◌, ◌<◌, ◌≤◌, get_or, length}
use Rattle.qrcode_reader.proofs.correct.recurrences.raised.Given as goal

abbrev pub invariant-loop-j : goal.invariant-loop-j
invariant-loop-j l = record {
  long : length l.row ≡ 72;
  zeros : (j : ℕ) → j < l.exponent → get_or l.row j 0 ≡ 0;
  below : (j : ℕ) → j < l.j → get_or l.row (l.exponent + j) 0 ≡ get_or l.coefficients j 0;
  behind : (j : ℕ) → l.j ≤ j → get_or l.row (l.exponent + j) 0 ≡ 0;
}
