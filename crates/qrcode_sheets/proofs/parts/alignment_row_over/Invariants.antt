use Rattle.std.proofs.Common.{◌≡◌, fold, map, take, not}
use Rattle.std.specs.List.{filter}
use Rattle.qrcode_types.specs.Versions.{side}
use Rattle.qrcode_layout.specs.Figures.{alignment, centres, is_corner_centre}
use Rattle.qrcode_sheets.specs.Parts.{part_over}
use Rattle.qrcode_sheets.proofs.parts.alignment_row_over.Given as goal

abbrev pub invariant-loop-a : goal.invariant-loop-a
invariant-loop-a l =
    l.part ≡ fold (part_over l.x l.y) l.initial.part
    (map (λ a. alignment a l.b) (filter (λ a. not (is_corner_centre (side l.fn.version) a l.b)) (take l.a-index (centres l.fn.version))))
