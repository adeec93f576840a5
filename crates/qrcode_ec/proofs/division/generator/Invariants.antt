use Rattle.std.proofs.Common.{◌≡◌, ℕ, ◌≤◌, ◌+◌, ◌∷◌, get_or, length, take}
use Rattle.qrcode_ec.specs.Codes.{Vanishes}
use Rattle.qrcode_ec.proofs.division.generator.Given as goal

abbrev pub invariant-loop-i : goal.invariant-loop-i
invariant-loop-i l = record {
  long : length l.coefficients ≡ 72;
  vanishes : Vanishes (take (l.i + 1) (1 ∷ l.coefficients)) l.i;
  ends : (j : ℕ) → l.i ≤ j → get_or l.coefficients j 0 ≡ 0;
}
