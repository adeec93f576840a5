use Rattle.std.proofs.Common.{◌≡◌, ◌++◌, length}
use Rattle.std.specs.List.{flat_map, range_with_len}
use Rattle.qrcode_sheets.specs.Files.{inked, black_bytes}
use Rattle.qrcode_render.specs.Grid.{cell_row, each, repeated}
use Rattle.qrcode_sheets.proofs.packed.push_packed_rows.Given as goal

abbrev pub invariant-loop-row : goal.invariant-loop-row
invariant-loop-row g l =
    (l.file.items ≡ l.fn.file.items ++ flat_map (λ row. repeated l.grid.down (g.F.Packing.row_of (black_bytes (inked l.marked l.other (each l.grid.across (cell_row l.grid row)))))) (range_with_len 0 l.row))
    × (length l.marks ≡ length l.fn.marks)
