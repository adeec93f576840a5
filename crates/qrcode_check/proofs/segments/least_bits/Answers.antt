use Rattle.std.proofs.Common.{◌*◌, ◌≤◌, length, arith}
use Rattle.qrcode_bits.specs.Segments.{total_cost}
use Rattle.qrcode_bits.proofs.LeastCuts.{cost_most}
use Rattle.qrcode_bits.proofs.Several.{small_inside}
use Rattle.qrcode_check.proofs.segments.least_bits.Goals as goal
use Rattle.qrcode_check.proofs.segments.least_bits.Goals.{In-Ok}

short : (c : In-Ok) → total_cost c.args.version c.in-Ok.segments.items ≤ 32 * length c.args.bytes.now
short c = omega (arith, cost_most c.args.modes c.args.version c.args.bytes.now 0 c.in-Ok.segments.items (length c.args.bytes.now) c.requires.valid c.in-Ok.ensures.least.reached.cut.tiles)

pub total_encoded_len-requires-clause-ranges : goal.total_encoded_len-requires-clause-ranges
total_encoded_len-requires-clause-ranges c =
    rw c.deref.ensures.value (small_inside (length c.args.bytes.now) c.in-Ok.segments.items (omega arith) c.in-Ok.ensures.gives_back.inside)

pub total_encoded_len-requires-clause-fits : goal.total_encoded_len-requires-clause-fits
total_encoded_len-requires-clause-fits c =
    let k = (goal.at.total_encoded_len-requires-clause-fits c).In-Ok in
    rw c.deref.ensures.value (omega (arith, short k, c.requires.length))
