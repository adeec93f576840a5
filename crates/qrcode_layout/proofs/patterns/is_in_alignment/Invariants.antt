use Rattle.std.proofs.Common.{◌≡◌, false, take}
use Rattle.std.specs.List.{flat_map}
use Rattle.qrcode_layout.specs.Figures.{alignment_row, centres}
use Rattle.qrcode_layout.proofs.FigurePlaces.{any_has}
use Rattle.qrcode_layout.proofs.patterns.is_in_alignment.Given as goal

abbrev pub invariant-loop-b : goal.invariant-loop-b
invariant-loop-b l = any_has l.x l.y (flat_map (alignment_row l.version) (take l.b-index (centres l.version))) ≡ false
