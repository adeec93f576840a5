use Rattle.std.proofs.Common.{◌≡◌, fold, take}
use Rattle.std.specs.List.{flat_map}
use Rattle.qrcode_layout.specs.Figures.{alignment_row, centres}
use Rattle.qrcode_symbol.specs.Patterned.{with_figure}
use Rattle.qrcode_symbol.proofs.canvas.drawing.draw_alignments.Given as goal

abbrev pub invariant-loop-b : goal.invariant-loop-b
invariant-loop-b l =
    l.modules ≡ fold (with_figure l.version) l.initial.modules (flat_map (alignment_row l.version) (take l.b-index (centres l.version)))
