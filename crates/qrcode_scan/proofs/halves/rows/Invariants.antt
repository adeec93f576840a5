use Rattle.std.proofs.Common.{◌≡◌, ◌++◌, drop, []}
use Rattle.qrcode_scan.specs.Halves.{rows_from}
use Rattle.qrcode_scan.proofs.halves.rows.Given as goal

abbrev pub invariant-loop-half : goal.invariant-loop-half
invariant-loop-half l = l.marks.items ++ rows_from l.across l.upper.items l.lower.items (drop l.half-index l.halves) ≡ rows_from l.across [] [] l.halves
