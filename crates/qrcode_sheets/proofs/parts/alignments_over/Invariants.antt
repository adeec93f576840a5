use Rattle.std.proofs.Common.{◌≡◌, fold, take}
use Rattle.std.specs.List.{flat_map}
use Rattle.qrcode_layout.specs.Figures.{alignment_row, centres}
use Rattle.qrcode_sheets.specs.Parts.{part_over}
use Rattle.qrcode_sheets.proofs.parts.alignments_over.Given as goal

abbrev pub invariant-loop-b : goal.invariant-loop-b
invariant-loop-b l = l.part ≡ fold (part_over l.x l.y) l.initial.part (flat_map (alignment_row l.version) (take l.b-index (centres l.version)))
