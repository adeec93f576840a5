use Rattle.std.proofs.Common.{◌≡◌, ℕ, ◌-◌, ◌<◌, ◌≤◌, false}
use Rattle.qrcode_bits.specs.Sparse.{is_dense_at}
use Rattle.qrcode_bits.proofs.optimize.single.is_sparse.Given as goal

abbrev pub invariant-loop-from : goal.invariant-loop-from
invariant-loop-from l = record {
  inside : l.from ≤ l.last;
  none : (i : ℕ) → i < l.from → is_dense_at l.bytes i ≡ false;
}

abbrev pub decreases-loop-from : goal.decreases-loop-from
decreases-loop-from l = l.last - l.from
