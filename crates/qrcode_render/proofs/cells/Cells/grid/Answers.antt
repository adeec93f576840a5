use Rattle.std.proofs.Common.{ap, ◌∙◌}
use Rattle.qrcode_render.specs.Grid.{pixels_of}
use Rattle.qrcode_render.proofs.Grids.{single_pixels}
use Rattle.qrcode_render.proofs.cells.Cells.grid.Goals as goal

pub returns : goal.returns
returns c =
    let m = c.self.inside in
    ap pixels_of c.new.ensures
    ∙ ap (λ xs. pixels_of (record { cells = xs; columns = m.width; rows = m.height; zone = 0; across = 1; down = 1 })) c.deref.ensures.value
    ∙ single_pixels m.cells.items m.width m.height c.self.invariant.0
    ∙ c.self.view_is
