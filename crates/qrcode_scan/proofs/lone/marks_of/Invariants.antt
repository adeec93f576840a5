use Rattle.std.proofs.Common.{◌≡◌, length}
use Rattle.qrcode_scan.proofs.lone.marks_of.Given as goal

abbrev pub invariant-loop-i : goal.invariant-loop-i
invariant-loop-i l = length l.marks.items ≡ l.i
