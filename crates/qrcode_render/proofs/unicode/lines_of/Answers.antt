use Rattle.std.proofs.Common.{◌≡◌, ◌+◌, ◌/◌, ◌++◌, map, ap, ◌∙◌, sym, arith}
use Rattle.std.specs.List.{join_with_byte, range_with_len}
use Rattle.qrcode_render.specs.Grid.{pixels_of}
use Rattle.qrcode_render.specs.Lines.{line_start}
use Rattle.qrcode_render.specs.Texts.{dense_line, dense_text}
use Rattle.qrcode_render.proofs.LineTexts.{joined_more, some_lines}
use Rattle.qrcode_render.proofs.unicode.lines_of.Goals as goal

-- The lines so far, followed by the next one.
pub loop-i-preserved : goal.loop-i-preserved
loop-i-preserved c =
    let line = dense_line c.args.marked c.args.other (pixels_of c.args.grid.now) in
    let i = c.loop-i.i in
    c.in_ok-push_line.ensures.appends
    ∙ ap (λ t. t ++ line_start i ++ line i) c.loop-i.invariant
    ∙ sym (joined_more line i)

pub returns-clause-value : goal.returns-clause-value
unfolding dense_text
returns-clause-value c =
    let b = pixels_of c.args.grid.now in
    let n = (b.down + 1) / 2 in
    let line = dense_line c.args.marked c.args.other b in
    let count : c.loop-i.i ≡ n = omega (arith, c.pixels-width.ensures.down) in
    c.loop-i.invariant
    ∙ ap (λ k. join_with_byte 10 (map line (range_with_len 0 k))) count
    ∙ sym (some_lines b.across (map line (range_with_len 0 n)) c.requires)
