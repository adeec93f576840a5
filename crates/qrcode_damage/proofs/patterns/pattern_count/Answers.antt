use Rattle.std.proofs.Common.{◌∙◌, arith}
use Rattle.qrcode_damage.proofs.Ahead.{ahead_all, ahead_next, bit_as_number}
use Rattle.qrcode_damage.proofs.patterns.pattern_count.Goals as goal

pub loop-i-init : goal.loop-i-init
loop-i-init c = record { counted = omega (arith, ahead_all c.args.version); few = omega arith }

pub loop-i-preserved : goal.loop-i-preserved
loop-i-preserved c =
    let next = ahead_next c.args.version c.loop-i.i c.side-width.result c.is_pattern_place.result c.side-width.ensures.value c.loop-i-test.true c.is_pattern_place.ensures in
    let added = c.from-count.ensures ∙ bit_as_number c.is_pattern_place.result in
    record { counted = omega (arith, c.loop-i.invariant.counted, added, next); few = grind (arith, c.loop-i.invariant.few, added) }
