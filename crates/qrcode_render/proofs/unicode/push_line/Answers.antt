use Rattle.std.proofs.Common.{◌≡◌, ℕ, ◌+◌, ◌*◌, ◌<◌, length, ap, ◌∙◌, sym, arith}
use Rattle.qrcode_render.proofs.PixelRows.{length-row}
use Rattle.qrcode_render.proofs.unicode.push_line.Goals as goal

pub push_columns-requires : goal.push_columns-requires
push_columns-requires c =
    let g = c.args.grid.now in
    let i = c.args.i in
    let wide : 0 < g.across = omega (arith, c.pixels-height.ensures.at_least.0) in
    let high : 0 < g.down = omega (arith, c.pixels-height.ensures.at_least.1) in
    ap length (c.deref-3.ensures.value ∙ c.in_ok-lower.ensures.value)
    ∙ length-row g (2 * i + 1) wide high (omega (arith, c.if-i-height.false, c.pixels-height.ensures.down, c.requires.inside))
    ∙ sym (ap length (c.deref-2.ensures.value ∙ c.in_ok-upper.ensures.value) ∙ length-row g (2 * i) wide high c.requires.inside)
