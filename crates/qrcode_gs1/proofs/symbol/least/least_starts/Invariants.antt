use Rattle.std.proofs.Common.{◌≡◌, ℕ, ◌<◌, ◌≤◌, length, drop, get_or, vec_len}
use Rattle.qrcode_bits.specs.Tokens.{first_byte}
use Rattle.qrcode_gs1.specs.symbol.Fewest.{costs_of, past_end}
use Rattle.qrcode_gs1.proofs.symbol.least.least_starts.Given as goal

abbrev pub invariant-loop-i : goal.invariant-loop-i
invariant-loop-i l = record {
  count : vec_len l.starts ≡ length l.bytes;
  rest : l.costs ≡ costs_of l.fn.headers (drop l.i l.bytes);
  follows : l.follows ≡ first_byte (drop l.i l.bytes);
  done : (k : ℕ) → l.i ≤ k → k < length l.bytes → get_or l.starts.items k past_end ≡ (costs_of l.fn.headers (drop k l.bytes)).start;
}
