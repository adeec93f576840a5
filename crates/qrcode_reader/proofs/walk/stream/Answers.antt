use Rattle.std.proofs.Common.{◌≡◌, ◌/◌, ◌%◌, ap, ◌∙◌, arith}
use Rattle.qrcode_types.specs.Versions.{side}
use Rattle.qrcode_layout.specs.Stream.{stream}
use Rattle.qrcode_reader.proofs.Walked.{none_walked, all_walked, whole_walk}
use Rattle.qrcode_reader.proofs.walk.stream.Goals as goal

pub loop-pair-init : goal.loop-pair-init
loop-pair-init c = c.in_ok-bits.ensures.items ∙ none_walked c.args.version c.new-turned.result.mask c.args.modules.now

pub returns : goal.returns
returns c =
    let w = c.side-width.ensures in
    let n : c.loop-pair.pair ≡ side c.args.version / 2 = omega (arith, w.value) in
    let odd : side c.args.version % 2 ≡ 1 = omega (arith, w.odd, w.value) in
    c.loop-pair.invariant ∙ all_walked c.args.version c.new-turned.result.mask c.args.modules.now c.loop-pair.pair (whole_walk (side c.args.version) c.loop-pair.pair odd n)
    ∙ ap (λ k. stream c.args.version k c.args.modules.now) c.new-turned.ensures.mask
