use Rattle.std.proofs.Common.{◌+◌, ◌*◌, ap, ap₂, ◌∙◌}
use Rattle.qrcode_render.specs.Drawn.{drawn}
use Rattle.qrcode_render.specs.Layout.{layout}
use Rattle.qrcode_render.specs.Setting.{Square}
use Rattle.qrcode_render.proofs.Canvas.picture.Goals as goal

-- The start of the canvas, and the modules drawn on it.
pub returns-clause-picture : goal.returns-clause-picture
returns-clause-picture g c = λ whole.
    let start = g.Self.Canvas.start in
    let draw = drawn g.Self.Canvas.rect_step in
    let m = c.modules.inside in
    let q = c.args.modules.now in
    let at = layout m.count m.zone m.width m.height in
    let shown = c.in_ok-draw_square.ensures.draws
    ∙ ap (draw at m.content.now) c.in_ok-canvas.ensures.starts
    ∙ ap₂ (λ w h. draw at m.content.now (start w h c.args.dark_pixel c.args.light_pixel)) c.pixels-width.ensures.across c.pixels-width.ensures.down
    ∙ ap (λ (s : Square). draw (layout s.count s.zone s.across s.down) s.content (start ((q.count + 2 * q.zone) * q.across) ((q.count + 2 * q.zone) * q.down) c.args.dark_pixel c.args.light_pixel)) c.modules.view_is in
    c.into_image.ensures.picture _ c.pixels-width.ensures.whole shown
