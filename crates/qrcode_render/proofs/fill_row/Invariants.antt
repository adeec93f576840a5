use Rattle.std.proofs.Common.{◌≡◌}
use Rattle.std.specs.List.{fold, range_with_len}
use Rattle.qrcode_render.proofs.fill_row.Given as goal

abbrev pub invariant-loop-column : goal.invariant-loop-column
invariant-loop-column g l =
    (g.C.Canvas.shown l.canvas ≡ fold (λ d x. g.C.Canvas.pixel_step x l.y d) (g.C.Canvas.shown l.fn.canvas) (range_with_len l.left l.column))
    × (g.C.Canvas.across l.canvas ≡ g.C.Canvas.across l.fn.canvas)
    × (g.C.Canvas.down l.canvas ≡ g.C.Canvas.down l.fn.canvas)
