use Rattle.std.proofs.Common.{◌≡◌, ◌+◌, ◌%◌, ◌<◌, length, drop}
use Rattle.qrcode_gs1.specs.Refusals.{weighted_sum}
use Rattle.qrcode_gs1.proofs.checks.is_checked.Given as goal

abbrev pub invariant-loop-digit : goal.invariant-loop-digit
invariant-loop-digit l = record {
  below : l.sum < 10;
  behind : l.left + l.digit-index ≡ length l.digits;
  value : (l.sum + weighted_sum (drop l.digit-index l.digits)) % 10 ≡ weighted_sum l.digits % 10;
}
