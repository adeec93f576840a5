use Rattle.std.proofs.Common.{◌≤◌, length}
use Rattle.qrcode_scan.proofs.finders.all_finders.Given as goal

abbrev pub invariant-loop-y : goal.invariant-loop-y
invariant-loop-y l = (length l.found.upright.items ≤ 1024) × (length l.found.turned.items ≤ 48)
