use Rattle.std.proofs.Common.{◌≡◌, ℕ, ◌<◌, ◌≤◌, false}
use Rattle.qrcode_bits.specs.Sparse.{is_dense_at}
use Rattle.qrcode_bits.proofs.optimize.single.has_dense.Given as goal

abbrev pub invariant-loop-i : goal.invariant-loop-i
invariant-loop-i l = record { none : l.dense ≡ false → (i : ℕ) → l.from ≤ i → i < l.i → is_dense_at l.bytes i ≡ false }
