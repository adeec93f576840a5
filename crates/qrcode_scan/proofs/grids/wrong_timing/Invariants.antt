use Rattle.std.proofs.Common.{◌≤◌, ◌*◌}
use Rattle.qrcode_scan.proofs.grids.wrong_timing.Given as goal

abbrev pub invariant-loop-i : goal.invariant-loop-i
invariant-loop-i l = l.wrong ≤ 2 * l.i
