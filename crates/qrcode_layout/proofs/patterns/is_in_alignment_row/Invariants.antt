use Rattle.std.proofs.Common.{◌≡◌, false, take}
use Rattle.qrcode_layout.specs.Figures.{centres}
use Rattle.qrcode_layout.proofs.FigurePlaces.{in_row}
use Rattle.qrcode_layout.proofs.patterns.is_in_alignment_row.Given as goal

abbrev pub invariant-loop-a : goal.invariant-loop-a
invariant-loop-a l = in_row l.fn.version l.b l.x l.y (take l.a-index (centres l.fn.version)) ≡ false
