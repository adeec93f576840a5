use Rattle.std.proofs.Common.{◌≡◌, ◌++◌}
use Rattle.qrcode_scan.specs.Halves.{padded}
use Rattle.qrcode_scan.proofs.halves.push_row.Given as goal

abbrev pub invariant-loop-x : goal.invariant-loop-x
invariant-loop-x l = l.marks.items ≡ l.fn.marks.items ++ padded l.x l.row
