use Rattle.std.proofs.Common.{◌≡◌, ◌+◌, ◌-◌, ◌*◌, ◌≤◌, List, length, drop, replicate, false, ap, ◌∙◌, arith, length-drop}
use Rattle.std.proofs.Math.ListN.{length-take}
use Rattle.std.proofs.lemmas.Nat.{row_fits}
use Rattle.std.specs.List.{slice_range}
use Rattle.qrcode_types.specs.declared.types.Color.{Color}
use Rattle.qrcode_render.specs.Bitmap.{marked_line}
use Rattle.qrcode_render.specs.Grid.{Grid, cell_row}
use Rattle.qrcode_render.proofs.Grids.{marked-zone, inside_row, outside_row}
use Rattle.qrcode_render.proofs.grid.Grid.mark_row.Goals as goal
use Rattle.qrcode_render.proofs.grid.Grid.mark_row.Goals.{else-self-row-via-then-self-row+else-row-self, else-self-row-via-else-self-row}

pub returns-then-row-self : goal.returns-then-row-self
returns-then-row-self c =
    let g = c.self.inside in
    let grid : Grid = record { cells = g.cells.now; columns = g.columns; rows = g.rows; zone = g.zone; across = g.across; down = g.down } in
    let row = c.args.row in
    let start = (row - g.zone) * g.columns in
    let line : List Color = slice_range g.cells.now start (start + g.columns) in
    let fits : start + g.columns ≤ g.rows * g.columns = row_fits (row - g.zone) g.columns g.rows g.columns (omega arith) (omega arith) in
    let n : length line ≡ g.columns = omega (arith, length-take (start + g.columns - start) (drop start g.cells.now), length-drop start g.cells.now, c.self.invariant.0) in
    c.mark_line.ensures
    ∙ ap (marked_line g.zone line) (c.fill.ensures.after (λ y h. h))
    ∙ marked-zone line g.zone (length c.args.marks.now) (omega (arith, c.requires.length, ap (λ (x : Grid). x.columns) c.self.view_is, ap (λ (x : Grid). x.zone) c.self.view_is))
    ∙ inside_row grid row c.if-self-row.true c.if-row-self.true c.self.invariant.0
    ∙ ap (λ x. cell_row x row) c.self.view_is

pub returns-else-self-row : goal.returns-else-self-row
returns-else-self-row c =
    let row = c.args.row in
    let g = c.args.self.now in
    let zone = ap (λ (x : Grid). x.zone) c.self.view_is in
    let rows = ap (λ (x : Grid). x.rows) c.self.view_is in
    c.fill.ensures.after (λ y h. h)
    ∙ ap (λ n. replicate n false) c.requires.length
    ∙ outside_row g row (λ top bottom. elim c.else-self-row.branch [
      | else-self-row-via-then-self-row+else-row-self w ↦ omega (arith, w.if-row-self.false, zone, rows)
      | else-self-row-via-else-self-row w ↦ omega (arith, w.if-self-row.false, zone)
    ])
