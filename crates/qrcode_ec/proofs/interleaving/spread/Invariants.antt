use Rattle.std.proofs.Common.{◌≡◌, ◌≢◌, ℕ, ◌+◌, ◌*◌, ◌<◌, get_or}
use Rattle.qrcode_ec.proofs.interleaving.spread.Given as goal

abbrev pub invariant-loop-byte : goal.invariant-loop-byte
invariant-loop-byte l = record {
  at : l.place ≡ l.byte-index * l.step + l.first;
  written : (i : ℕ) → i < l.byte-index → get_or l.codewords (i * l.step + l.first) 0 ≡ get_or l.bytes i 0;
  unchanged : (i k : ℕ) → k < l.step → k ≢ l.first → get_or l.codewords (i * l.step + k) 0 ≡ get_or l.initial.codewords (i * l.step + k) 0;
}
