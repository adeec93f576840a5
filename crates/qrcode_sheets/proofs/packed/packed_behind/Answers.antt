use Rattle.std.proofs.Common.{◌++◌, ap₂, ◌∙◌, sym}
use Rattle.qrcode_sheets.specs.Files.{inked, black_bytes}
use Rattle.qrcode_sheets.specs.Printers.{packed_file}
use Rattle.qrcode_render.proofs.Grids.{rows_by_cells}
use Rattle.qrcode_sheets.proofs.packed.packed_behind.Goals as goal

pub returns-clause-value : goal.returns-clause-value
unfolding packed_file
returns-clause-value g c =
    let sides = c.pixels-width.ensures in
    let rows = sym (rows_by_cells (λ marks. g.F.Packing.row_of (black_bytes (inked c.args.marked c.args.other marks))) c.args.grid.now sides.at_least.0 sides.at_least.1) in
    c.in_ok-extend_from_slice.ensures.items
    ∙ ap₂ (λ xs ys. xs ++ ys) (c.in_ok-push_packed_rows.ensures.appends ∙ ap₂ (λ xs ys. xs ++ ys) c.in_ok-reserve.ensures.items rows) c.tail.ensures
