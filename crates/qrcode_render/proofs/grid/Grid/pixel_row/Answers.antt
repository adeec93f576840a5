use Rattle.std.proofs.Common.{◌≡◌, ◌*◌, ◌/◌, ap, ◌∙◌, length, map, get_or, false, arith}
use Rattle.std.specs.List.{range_with_len}
use Rattle.std.proofs.lemmas.List.{with_items_is}
use Rattle.qrcode_render.specs.Grid.{cell_row}
use Rattle.qrcode_render.proofs.PixelRows.{pixels_are_cells, pixels_by_cells}
use Rattle.qrcode_render.proofs.grid.Grid.pixel_row.Goals as goal

pub returns-then-across-eq1-clause-value : goal.returns-then-across-eq1-clause-value
returns-then-across-eq1-clause-value c =
    let g = c.args.self.now in
    let once : g.across ≡ 1 = omega (arith, c.cell-across.ensures.across, c.if-across-eq1.true) in
    with_items_is c.in_ok-cells.cells c.mark_row.new.marks (omega (arith, c.mark_row.auto.marks, c.deref_mut.ensures.len))
    ∙ c.mark_row.ensures
    ∙ ap (λ d. cell_row g (c.args.y / d)) c.cell-across.ensures.down
    ∙ pixels_are_cells g c.args.y once (omega (arith, c.cell-across.ensures.down, c.cell-across.ensures.at_least.1)) c.requires

pub returns-clause-value : goal.returns-clause-value
returns-clause-value c =
    let g = c.args.self.now in
    let cells = c.deref.result.now in
    let is = c.deref.ensures.value
    ∙ with_items_is c.in_ok-cells.cells c.mark_row.new.marks (omega (arith, c.mark_row.auto.marks, c.deref_mut.ensures.len))
    ∙ c.mark_row.ensures
    ∙ ap (λ d. cell_row g (c.args.y / d)) c.cell-across.ensures.down in
    with_items_is c.in_ok-marks.marks c.widen.new.marks (omega (arith, c.widen.auto.marks, c.deref_mut-2.ensures.len))
    ∙ c.widen.ensures
    ∙ ap (λ a. map (λ x. get_or cells (x / a) false) (range_with_len 0 (length cells * a))) c.cell-across.ensures.across
    ∙ pixels_by_cells g c.args.y cells (omega (arith, c.cell-across.ensures.across, c.cell-across.ensures.at_least.0)) (omega (arith, c.cell-across.ensures.down, c.cell-across.ensures.at_least.1)) c.requires is
