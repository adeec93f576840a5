use Rattle.std.proofs.Common.{ap₂, ◌∙◌}
use Rattle.qrcode_render.specs.Grid.{pixels_of}
use Rattle.qrcode_sheets.proofs.PackedBits.{other_head}
use Rattle.qrcode_sheets.proofs.packed.packed_file.Goals as goal

pub returns-clause-value : goal.returns-clause-value
returns-clause-value g c =
    let F = g.F.Packing in
    let sides = c.pixels-width.ensures in
    c.in_ok-file.ensures.value
    ∙ other_head c.in_ok-head.head.items F.before F.row_of F.behind c.args.marked c.args.other (pixels_of c.args.grid.now) (c.in_ok-head.ensures.value ∙ ap₂ F.before sides.across sides.down)
