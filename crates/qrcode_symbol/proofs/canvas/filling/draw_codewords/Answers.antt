use Rattle.std.proofs.Common.{◌≡◌, ◌*◌, ◌∙◌, sym, arith}
use Rattle.qrcode_types.specs.Versions.{side}
use Rattle.qrcode_symbol.proofs.Walk.{at_start, at_end, last_pair}
use Rattle.qrcode_symbol.proofs.canvas.filling.draw_codewords.Goals as goal

pub loop-number-init : goal.loop-number-init
loop-number-init c =
    let e : 2 * side c.args.version * 0 ≡ 0 = omega arith in
    rw e (at_start c.args.version c.args.codewords c.args.modules.now)

pub returns : goal.returns
returns c =
    let v = c.args.version in
    sym (at_end v c.loop-number.codewords c.loop-number.modules (2 * side v * c.loop-number.number)
    (last_pair (side v) c.loop-number.number (omega arith) (rw (← c.side-width.ensures.value) c.loop-number-test.false))) ∙ c.loop-number.invariant
