use Rattle.std.proofs.Common.{◌≡◌, ◌*◌, drop}
use Rattle.qrcode_render.specs.Drawn.{drawn_from}
use Rattle.qrcode_render.specs.Layout.{layout}
use Rattle.qrcode_render.proofs.Canvas.draw_square.Given as goal

abbrev pub invariant-loop-row : goal.invariant-loop-row
invariant-loop-row g l =
    (drawn_from g.Self.Canvas.rect_step (layout l.count l.zone l.width l.height) (l.row * l.count) (drop (l.row * l.count) l.content) (g.Self.Canvas.shown l.self)
    ≡ drawn_from g.Self.Canvas.rect_step (layout l.count l.zone l.width l.height) 0 l.content (g.Self.Canvas.shown l.fn.self))
    × (g.Self.Canvas.across l.self ≡ g.Self.Canvas.across l.fn.self)
    × (g.Self.Canvas.down l.self ≡ g.Self.Canvas.down l.fn.self)
