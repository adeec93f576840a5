use Rattle.std.proofs.Common.{◌≡◌, ◌+◌, ◌*◌, ◌∙◌, ap, arith}
use Rattle.qrcode_types.specs.Versions.{side}
use Rattle.qrcode_symbol.specs.Filling.{filled_from}
use Rattle.qrcode_symbol.proofs.Walk.{row_step, apart}
use Rattle.qrcode_symbol.proofs.canvas.filling.draw_pair.Goals as goal

pub loop-step-preserved : goal.loop-step-preserved
loop-step-preserved c =
    let p = c.args.pair in
    row_step p.version p.number c.loop-step.step c.index-index.result
    c.loop-step.codewords c.draw_bit.new.codewords c.draw_bit-in-loop-step.new.codewords
    c.loop-step.modules c.draw_bit.new.modules c.draw_bit-in-loop-step.new.modules
    (apart p.version p.valid) (omega (arith, p.inside, p.wide)) (omega (arith, p.wide)) c.index-index.ensures.value (omega (arith, p.at_least, p.column))
    c.draw_bit.ensures.rest c.draw_bit.ensures.after c.draw_bit-in-loop-step.ensures.rest c.draw_bit-in-loop-step.ensures.after
    ∙ c.loop-step.invariant

pub returns : goal.returns
returns c =
    let p = c.args.pair in
    let v = p.version in
    let e : 2 * side v * (p.number + 1) ≡ 2 * side v * p.number + 2 * c.loop-step.step = omega (arith, p.wide) in
    ap (filled_from v c.loop-step.codewords c.loop-step.modules) e ∙ c.loop-step.invariant
