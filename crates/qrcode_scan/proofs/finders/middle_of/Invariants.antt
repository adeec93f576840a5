use Rattle.std.proofs.Common.{◌≤◌, ◌*◌}
use Rattle.qrcode_scan.proofs.finders.middle_of.Given as goal

abbrev pub invariant-loop-i : goal.invariant-loop-i
invariant-loop-i l = (l.count ≤ l.i) × (l.across ≤ 300000 * l.i) × (l.down ≤ 300000 * l.i)
