use Rattle.std.proofs.Common.{◌≡◌, ℕ, ◌<◌, ◌≤◌, length, slice_index}
use Rattle.qrcode_damage.proofs.reserve.greatest.Given as goal

abbrev pub invariant-loop-i : goal.invariant-loop-i
invariant-loop-i l = record {
  inside : l.most.0 < length l.counts;
  value : l.most.1 ≡ slice_index l.counts l.most.0;
  at_least : (k : ℕ) → k < l.i → slice_index l.counts k ≤ l.most.1;
  earlier : (k : ℕ) → k < l.most.0 → slice_index l.counts k < l.most.1;
}
