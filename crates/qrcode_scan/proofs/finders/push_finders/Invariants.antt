use Rattle.std.proofs.Common.{◌≤◌, length}
use Rattle.qrcode_scan.proofs.finders.push_finders.Given as goal

abbrev pub invariant-loop-x : goal.invariant-loop-x
invariant-loop-x l = (length l.found.upright.items ≤ 1024) × (length l.found.turned.items ≤ 48)
