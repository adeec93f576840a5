use Rattle.std.proofs.Common.{◌*◌, ◌≤◌, length, arith, ap, subst, ◌∙◌}
use Rattle.qrcode_bits.specs.Segments.{total_cost}
use Rattle.qrcode_bits.specs.Cuts.{IsLeastCutIn}
use Rattle.qrcode_bits.specs.Manners.{modes_of}
use Rattle.qrcode_bits.proofs.LeastCuts.{cost_most}
use Rattle.qrcode_bits.proofs.Several.{small_inside}
use Rattle.qrcode_append.proofs.holding.measure.Goals as goal
use Rattle.qrcode_append.proofs.holding.measure.Goals.{In_ok-segments}

least : (c : In_ok-segments) → IsLeastCutIn (modes_of c.args.manner) c.args.version c.args.bytes.now c.in_ok-segments.segments.items
least c = subst (λ set. IsLeastCutIn set c.args.version c.args.bytes.now c.in_ok-segments.segments.items) c.modes.ensures c.in_ok-segments.ensures.least

short : (c : In_ok-segments) → total_cost c.args.version c.in_ok-segments.segments.items ≤ 32 * length c.args.bytes.now
short c = omega (arith, cost_most (modes_of c.args.manner) c.args.version c.args.bytes.now 0 c.in_ok-segments.segments.items (length c.args.bytes.now) c.requires.valid (least c).reached.cut.tiles)

pub total_encoded_len-requires-clause-ranges : goal.total_encoded_len-requires-clause-ranges
total_encoded_len-requires-clause-ranges c =
    rw c.deref.ensures.value (small_inside (length c.args.bytes.now) c.in_ok-segments.segments.items (omega arith) c.in_ok-segments.ensures.gives_back.inside)

pub total_encoded_len-requires-clause-fits : goal.total_encoded_len-requires-clause-fits
total_encoded_len-requires-clause-fits c =
    let k = (goal.at.total_encoded_len-requires-clause-fits c).In_ok-segments in
    rw c.deref.ensures.value (omega (arith, short k, c.requires.length_at_most))

pub returns-clause-measured : goal.returns-clause-measured
returns-clause-measured c =
    let k = (goal.at.returns-clause-measured c).In_ok-segments in
    (c.in_ok-segments.segments.items, (least k, c.total_encoded_len.ensures ∙ ap (total_cost c.args.version) c.deref.ensures.value))

pub returns-clause-at_most : goal.returns-clause-at_most
returns-clause-at_most c =
    let k = (goal.at.returns-clause-at_most c).In_ok-segments in
    omega (arith, short k, c.requires.length_at_most, c.total_encoded_len.ensures, ap (total_cost c.args.version) c.deref.ensures.value)
