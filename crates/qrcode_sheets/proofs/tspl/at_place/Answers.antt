use Rattle.std.proofs.Common.{ap, ap₂, ◌∙◌}
use Rattle.qrcode_render.specs.Grid.{pixels_of}
use Rattle.qrcode_sheets.specs.Printers.{tspl_file_at, tspl_head_at, tspl_row, tspl_tail}
use Rattle.qrcode_sheets.proofs.PackedBits.{other_head}
use Rattle.qrcode_sheets.proofs.tspl.at_place.Goals as goal

pub returns-clause-value : goal.returns-clause-value
returns-clause-value c =
    let place = c.args.place in
    let sides = c.pixels-width.ensures in
    let head = tspl_head_at place in
    c.in_ok-label.ensures.value
    ∙ other_head c.in_ok-head.head.items head tspl_row tspl_tail c.is_black.result c.is_black-2.result (pixels_of c.grid-grid.result) (c.in_ok-head.ensures.value ∙ ap₂ head sides.across sides.down)
    ∙ ap₂ (λ marked other. tspl_file_at place marked other (pixels_of c.grid-grid.result)) (c.is_black.ensures ∙ ap (λ dot. dot.is_black) c.colors.ensures.dark) (c.is_black-2.ensures ∙ ap (λ dot. dot.is_black) c.colors.ensures.light)
    ∙ ap (tspl_file_at place c.args.renderer.now.dark.is_black c.args.renderer.now.light.is_black) c.grid-grid.ensures.pixels
