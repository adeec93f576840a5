use Rattle.std.proofs.Common.{◌≡◌, ℕ, suc, ◌<◌, ◌≤◌, get_or, length, bit_xor}
use Rattle.qrcode_ec.specs.Field.{product}
use Rattle.qrcode_ec.proofs.division.advance.Given as goal

abbrev pub invariant-loop-i : goal.invariant-loop-i
invariant-loop-i l = record {
  long : length l.register ≡ 72;
  below : (j : ℕ) → j < l.i → get_or l.register j 0 ≡ bit_xor (get_or l.initial.register (suc j) 0) (product l.factor (get_or l.generator j 0));
  behind : (j : ℕ) → l.i ≤ j → get_or l.register j 0 ≡ get_or l.initial.register j 0;
}
