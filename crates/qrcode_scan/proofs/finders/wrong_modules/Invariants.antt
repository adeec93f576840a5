use Rattle.std.proofs.Common.{◌≤◌}
use Rattle.qrcode_scan.proofs.finders.wrong_modules.Given as goal

abbrev pub invariant-loop-i : goal.invariant-loop-i
invariant-loop-i l = l.wrong ≤ l.i
