use Rattle.std.proofs.Common.{◌≡◌, ℕ, ◌+◌, ◌<◌, ◌≤◌, get_or, length, bit_xor}
use Rattle.qrcode_reader.proofs.correct.residues.add_from.Given as goal

abbrev pub invariant-loop-j : goal.invariant-loop-j
invariant-loop-j l = record {
  long : length l.row ≡ 72;
  before : (k : ℕ) → k < l.place → get_or l.row k 0 ≡ get_or l.initial.row k 0;
  below : (k : ℕ) → k < l.j → get_or l.row (l.place + k) 0 ≡ bit_xor (get_or l.initial.row (l.place + k) 0) (get_or l.bytes k 0);
  behind : (k : ℕ) → l.j ≤ k → get_or l.row (l.place + k) 0 ≡ get_or l.initial.row (l.place + k) 0;
}
