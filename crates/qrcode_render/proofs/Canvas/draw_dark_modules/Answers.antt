use Rattle.std.proofs.Common.{◌+◌, ap, ◌∙◌, drop, arith}
use Rattle.qrcode_types.specs.declared.types.Color.TheVariants.{Light, Dark}
use Rattle.qrcode_render.specs.Drawn.{drawn_row}
use Rattle.qrcode_render.proofs.Folds.{drawn_row-past}
use Rattle.qrcode_render.proofs.Canvas.draw_dark_modules.Goals as goal
use Rattle.qrcode_render.proofs.Canvas.draw_dark_modules.Goals.{in-Light, in-Dark+in_ok-draw_dark_rect-in-Dark}

-- The step of a module, then those of the modules after it.
pub loop-color-preserved : goal.loop-color-preserved
loop-color-preserved g c =
    let rect = g.Self.Canvas.rect_step in
    let shown = g.Self.Canvas.shown in
    let across = g.Self.Canvas.across in
    let down = g.Self.Canvas.down in
    let x = c.loop-color.x in
    let k = c.loop-color.color-index in
    let d = shown c.loop-color.self in
    let now = c.loop-color.invariant in
    let after = λ (e : g.Self.Canvas.Drawing). drawn_row rect (x + c.args.width) c.args.top c.args.width c.args.height (drop (k + 1) c.args.line.now) e in
    elim c.match-color.branch [
      | in-Light w ↦ (
        omega arith,
        ap (λ s. after (shown s)) w.self-is ∙ drawn_row-past rect x c.args.top c.args.width c.args.height k c.args.line.now _ Light d c.loop-color-test.true w.in-Light.is ∙ now.1,
        ap across w.self-is ∙ now.2,
        ap down w.self-is ∙ now.3,
      )
      | in-Dark+in_ok-draw_dark_rect-in-Dark w ↦
          let ok = w.in_ok-draw_dark_rect-in-Dark.ensures in (
            omega arith,
            ap (λ s. after (shown s)) w.self-is ∙ ap after ok.draws ∙ drawn_row-past rect x c.args.top c.args.width c.args.height k c.args.line.now _ Dark d c.loop-color-test.true w.in-Dark.is ∙ now.1,
            ap across w.self-is ∙ ok.across ∙ now.2,
            ap down w.self-is ∙ ok.down ∙ now.3,
          )
    ]
