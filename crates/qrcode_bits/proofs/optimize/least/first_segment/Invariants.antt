use Rattle.std.proofs.Common.{◌≡◌, ℕ, ◌+◌, ◌-◌, ◌*◌, ◌≤◌, length}
use Rattle.qrcode_bits.proofs.FirstSegments.{Matches}
use Rattle.qrcode_bits.proofs.optimize.least.first_segment.Given as goal

abbrev pub invariant-loop-end : goal.invariant-loop-end
invariant-loop-end l = record {
  end : l.end ≡ l.begin + l.count * l.width;
  inside : l.end ≤ length l.bytes;
  none : (k : ℕ) → 1 ≤ k → k ≤ l.count → Matches l.fn.headers l.bytes l.begin l.mode k → ⊥;
}

abbrev pub decreases-loop-end : goal.decreases-loop-end
decreases-loop-end l = length l.bytes - l.end
