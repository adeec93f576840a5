use Rattle.std.proofs.Common.{◌<◌}
use Rattle.qrcode_trials.proofs.digest.Digest.of.Given as goal

abbrev pub invariant-loop-item : goal.invariant-loop-item
invariant-loop-item g l = l.sum < 4294967291
