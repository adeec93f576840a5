use Rattle.std.proofs.Common.{◌≡◌, ◌+◌, ◌%◌, ◌<◌, length}
use Rattle.qrcode_contents.specs.PixKeys.{weighted_sum}
use Rattle.qrcode_contents.proofs.pix_keys.weighted_sum.Given as goal

abbrev pub invariant-loop-weights : goal.invariant-loop-weights
invariant-loop-weights l = record {
  below : l.sum < 11;
  value : (l.sum + weighted_sum l.weights l.bytes) % 11 ≡ weighted_sum l.initial.weights l.initial.bytes % 11;
}

abbrev pub decreases-loop-weights : goal.decreases-loop-weights
decreases-loop-weights l = length l.weights
