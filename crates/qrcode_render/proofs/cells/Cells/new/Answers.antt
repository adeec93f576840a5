use Rattle.std.proofs.Common.{◌*◌, ap, ◌∙◌, map}
use Rattle.qrcode_types.specs.Colors.{is_dark}
use Rattle.std.specs.Prelude.{vec_len}
use Rattle.qrcode_render.proofs.Grids.{light_cells}
use Rattle.qrcode_render.proofs.cells.Cells.new.Goals as goal

pub returns-clause-value : goal.returns-clause-value
returns-clause-value c =
    let n = c.args.width * c.args.height in
    let none = c.new-cells.result in
    ap (λ ms. record { across = c.args.width; down = c.args.height; marks = ms })
    (ap (λ xs. map is_dark xs) c.in_ok-resize.ensures.items ∙ light_cells n (vec_len none) none.items c.new-cells.ensures.items c.new-cells.ensures.len)
