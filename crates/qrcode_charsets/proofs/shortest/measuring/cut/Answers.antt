use Rattle.std.proofs.Common.{◌*◌, ◌≤◌, List, ℕ, length, arith, ap, sym, subst}
use Rattle.qrcode_bits.specs.Segments.{AreInside, total_cost}
use Rattle.qrcode_bits.proofs.CutPieces.{cut_inside}
use Rattle.qrcode_bits.proofs.LeastCuts.{cost_most}
use Rattle.qrcode_bits.proofs.Several.{small_inside}
use Rattle.qrcode_charsets.specs.Fronts.{charset_modes}
use Rattle.qrcode_charsets.specs.Laid.{IsBestCut}
use Rattle.qrcode_charsets.proofs.shortest.measuring.cut.Goals as goal
use Rattle.qrcode_charsets.proofs.shortest.measuring.cut.Goals.{In_ok-segments}

best : (c : In_ok-segments) → IsBestCut c.args.set c.args.version c.args.bytes.items c.in_ok-segments.segments.items
best c = subst (λ (xs : List ℕ). IsBestCut c.args.set c.args.version xs c.in_ok-segments.segments.items) c.deref.ensures.value c.in_ok-segments.ensures.best

short : (c : In_ok-segments) → total_cost c.args.version c.in_ok-segments.segments.items ≤ 32 * length c.args.bytes.items
short c = omega (arith, cost_most (charset_modes c.args.set) c.args.version c.args.bytes.items 0 c.in_ok-segments.segments.items (length c.args.bytes.items) c.requires.valid (best c).cut.tiles)

pub total_encoded_len-requires-clause-ranges : goal.total_encoded_len-requires-clause-ranges
total_encoded_len-requires-clause-ranges c =
    let k = (goal.at.total_encoded_len-requires-clause-ranges c).In_ok-segments in
    let bytes = c.args.bytes.items in
    small_inside (length bytes) c.deref-2.result.now (omega (arith, c.requires.length_at_most))
    (subst (AreInside (length bytes)) (sym c.deref-2.ensures.value) (cut_inside c.args.version bytes c.in_ok-segments.segments.items (best k).cut))

pub total_encoded_len-requires-clause-fits : goal.total_encoded_len-requires-clause-fits
total_encoded_len-requires-clause-fits c =
    let k = (goal.at.total_encoded_len-requires-clause-fits c).In_ok-segments in
    omega (arith, short k, ap (total_cost c.args.version) c.deref-2.ensures.value, c.requires.length_at_most)

pub overflow_add-used : goal.overflow_add-used
overflow_add-used c =
    let k = (goal.at.overflow_add-used c).In_ok-segments in
    omega (arith, short k, ap (total_cost c.args.version) c.deref-2.ensures.value, c.requires.length_at_most, c.front_length.ensures.at_most, c.total_encoded_len.ensures)
