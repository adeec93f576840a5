use Rattle.std.proofs.Common.{◌≡◌, ℕ, ◌+◌, ◌≤◌, length, drop, get_or, vec_len}
use Rattle.qrcode_bits.specs.LeastBits.{costs_of, past_end}
use Rattle.qrcode_bits.proofs.optimize.least.least_starts.Given as goal

abbrev pub invariant-loop-i : goal.invariant-loop-i
invariant-loop-i l = record {
  count : vec_len l.starts ≡ length l.bytes + 1;
  rest : l.costs ≡ costs_of l.fn.headers (drop l.i l.bytes);
  done : (k : ℕ) → l.i ≤ k → k ≤ length l.bytes → get_or l.starts.items k past_end ≡ (costs_of l.fn.headers (drop k l.bytes)).start;
}
