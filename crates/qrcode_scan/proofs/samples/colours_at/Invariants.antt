use Rattle.std.proofs.Common.{◌≡◌, ◌/◌, ◌%◌, map}
use Rattle.std.specs.List.{range_with_len}
use Rattle.qrcode_types.specs.Colors.{color_of}
use Rattle.qrcode_scan.specs.Squares.{mark_at}
use Rattle.qrcode_scan.specs.Grids.{column_at, row_at}
use Rattle.qrcode_scan.proofs.samples.colours_at.Given as goal

abbrev pub invariant-loop-i : goal.invariant-loop-i
invariant-loop-i l =
    l.modules.items ≡ map (λ i. color_of (mark_at l.pixels (column_at l.grid (i % l.grid.count) (i / l.grid.count)) (row_at l.grid (i % l.grid.count) (i / l.grid.count)))) (range_with_len 0 l.i)
