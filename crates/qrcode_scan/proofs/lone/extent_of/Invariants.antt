use Rattle.std.proofs.Common.{◌≤◌}
use Rattle.qrcode_scan.proofs.lone.extent_of.Given as goal

abbrev pub invariant-loop-y : goal.invariant-loop-y
invariant-loop-y l = (l.all.left ≤ 65535) × (l.all.top ≤ 65535) × (l.all.right ≤ l.pixels.across) × (l.all.bottom ≤ l.y)
