use Rattle.std.proofs.Common.{◌≡◌, fold, map, take, not}
use Rattle.std.specs.List.{filter}
use Rattle.qrcode_types.specs.Versions.{side}
use Rattle.qrcode_layout.specs.Figures.{alignment, centres, is_corner_centre}
use Rattle.qrcode_symbol.specs.Patterned.{with_figure}
use Rattle.qrcode_symbol.proofs.canvas.drawing.draw_alignment_row.Given as goal

abbrev pub invariant-loop-a : goal.invariant-loop-a
invariant-loop-a l =
    l.modules ≡ fold (with_figure l.version) l.initial.modules
    (map (λ a. alignment a l.b) (filter (λ a. not (is_corner_centre (side l.version) a l.b)) (take l.a-index (centres l.version))))
