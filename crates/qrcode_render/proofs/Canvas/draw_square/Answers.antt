use Rattle.std.proofs.Common.{◌≤◌, ◌+◌, ◌*◌, length, ap, ◌∙◌, drop, arith}
use Rattle.std.proofs.Math.Nat.{mul-le-mul_right}
use Rattle.qrcode_render.specs.Drawn.{drawn_from}
use Rattle.qrcode_render.specs.Layout.{layout}
use Rattle.qrcode_render.proofs.Folds.{next_row}
use Rattle.qrcode_render.proofs.Canvas.draw_square.Goals as goal

-- The steps of a row, then those of the rows below it.
pub loop-row-preserved : goal.loop-row-preserved
loop-row-preserved g c =
    let rect = g.Self.Canvas.rect_step in
    let at = layout c.args.count c.args.zone c.args.width c.args.height in
    let row = c.loop-row.row in
    let i = (row + 1) * c.args.count in
    let xs = c.args.content.now in
    let inside : i ≤ length xs = omega (arith, mul-le-mul_right c.args.count c.loop-row-test.true) in (
      ap (λ d. drawn_from rect at i (drop i xs) d) c.in_ok-draw_dark_modules.ensures.draws
          ∙ next_row rect at row xs (g.Self.Canvas.shown c.loop-row.self) inside
          ∙ c.loop-row.invariant.0,
      c.in_ok-draw_dark_modules.ensures.across ∙ c.loop-row.invariant.1,
      c.in_ok-draw_dark_modules.ensures.down ∙ c.loop-row.invariant.2,
    )
