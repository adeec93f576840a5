use Rattle.std.proofs.Common.{◌≤◌}
use Rattle.qrcode_scan.proofs.micro.timing_end.Given as goal

abbrev pub invariant-loop-i : goal.invariant-loop-i
invariant-loop-i l = l.far ≤ l.line.length
