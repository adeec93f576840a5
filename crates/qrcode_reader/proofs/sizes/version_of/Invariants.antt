use Rattle.std.proofs.Common.{◌≢◌, ℕ, ◌+◌, ◌*◌, ◌≤◌, ◌<◌}
use Rattle.qrcode_reader.proofs.sizes.version_of.Given as goal

abbrev pub invariant-loop-number : goal.invariant-loop-number
invariant-loop-number l = (k : ℕ) → 1 ≤ k → k < l.number → (2 * k + 9) * (2 * k + 9) ≢ l.count

abbrev pub invariant-loop-number-2 : goal.invariant-loop-number-2
invariant-loop-number-2 l = ((k : ℕ) → 1 ≤ k → k < 5 → (2 * k + 9) * (2 * k + 9) ≢ l.count) × ((k : ℕ) → 1 ≤ k → k < l.number → (4 * k + 17) * (4 * k + 17) ≢ l.count)
