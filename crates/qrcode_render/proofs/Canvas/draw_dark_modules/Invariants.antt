use Rattle.std.proofs.Common.{◌≡◌, ◌+◌, ◌*◌, drop}
use Rattle.qrcode_render.specs.Drawn.{drawn_row}
use Rattle.qrcode_render.proofs.Canvas.draw_dark_modules.Given as goal

abbrev pub invariant-loop-color : goal.invariant-loop-color
invariant-loop-color g l =
    (l.x ≡ l.left + l.color-index * l.width)
    × (drawn_row g.Self.Canvas.rect_step l.x l.top l.width l.height (drop l.color-index l.line) (g.Self.Canvas.shown l.self)
    ≡ drawn_row g.Self.Canvas.rect_step l.left l.top l.width l.height l.line (g.Self.Canvas.shown l.fn.self))
    × (g.Self.Canvas.across l.self ≡ g.Self.Canvas.across l.fn.self)
    × (g.Self.Canvas.down l.self ≡ g.Self.Canvas.down l.fn.self)
