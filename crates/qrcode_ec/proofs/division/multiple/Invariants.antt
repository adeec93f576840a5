use Rattle.std.proofs.Common.{◌≡◌, ℕ, ◌<◌, ◌≤◌, get_or, length}
use Rattle.qrcode_ec.specs.Field.{product}
use Rattle.qrcode_ec.proofs.division.multiple.Given as goal

abbrev pub invariant-loop-j : goal.invariant-loop-j
invariant-loop-j l = record {
  long : length l.row ≡ 32;
  below : (i : ℕ) → i < l.j → get_or l.row i 0 ≡ product l.factor (get_or l.generator i 0);
  behind : (i : ℕ) → l.j ≤ i → get_or l.row i 0 ≡ 0;
}
