use Rattle.std.proofs.Common.{◌+◌, ◌≤◌, length, pos, sym, subst, arith, w16, to_z}
use Rattle.qrcode_types.specs.Versions.{capacity}
use Rattle.qrcode_types.specs.declared.types.Version.TheVariants.{Normal}
use Rattle.qrcode_bits.specs.Cuts.{IsCut}
use Rattle.qrcode_bits.specs.Segments.{AreInside, total_cost}
use Rattle.qrcode_gs1.specs.symbol.Characters.{mark}
use Rattle.qrcode_gs1.specs.symbol.Cuts.{IsLeastMarkedCut, AreCharacters, marked_cost}
use Rattle.qrcode_gs1.proofs.Pieces.{written_cut, written_cost, tiles_inside, version_is}
use Rattle.qrcode_gs1.proofs.Spelled.{marked_list}
use Rattle.qrcode_gs1.proofs.symbol.drawing.marked_bits.Goals as goal
use Rattle.qrcode_gs1.proofs.symbol.drawing.marked_bits.Goals.{In_ok-cut, In_ok-written}

-- the segments are a shortest cut
least : (c : In_ok-cut) → IsLeastMarkedCut (Normal (pos c.args.number)) c.args.bytes.now c.in_ok-cut.cut.items
least c = subst (λ u. IsLeastMarkedCut u c.args.bytes.now c.in_ok-cut.cut.items) (version_is c.args.number c.requires.at_most) c.in_ok-cut.ensures.least

room : (c : In_ok-cut) → length (mark c.args.position) + marked_cost (Normal (pos c.args.number)) c.args.bytes.now c.in_ok-cut.cut.items ≤ capacity (Normal (pos c.args.number)) c.args.ec_level
room c = let holds = c.requires.holds in omega (arith, (least c).least holds.segments holds.cut, holds.room)

-- the characters that they write
written_is : (c : In_ok-written) → AreCharacters c.args.bytes.now c.in_ok-cut.cut.items c.in_ok-written.field-0.bytes.items c.in_ok-written.field-0.segments.items
written_is c = subst (λ ss. AreCharacters c.args.bytes.now ss c.in_ok-written.field-0.bytes.items c.in_ok-written.field-0.segments.items) c.deref.ensures.value c.in_ok-written.ensures.value

pub of-requires-clause-inside : goal.of-requires-clause-inside
of-requires-clause-inside c =
    let tiles = (least (goal.at.of-requires-clause-inside c).In_ok-cut).reached.tiles in
    subst (AreInside (length c.args.bytes.now)) (sym c.deref.ensures.value) (tiles_inside (length c.args.bytes.now) 0 c.in_ok-cut.cut.items tiles)

pub ended_bits-requires-clause-cut : goal.ended_bits-requires-clause-cut
ended_bits-requires-clause-cut c =
    let k = (goal.at.ended_bits-requires-clause-cut c).In_ok-cut in
    let w = (goal.at.ended_bits-requires-clause-cut c).In_ok-written in
    let n = c.args.number in
    let ranges = c.in_ok-written.field-0.segments.items in
    let own = written_cut n c.args.bytes.now c.in_ok-cut.cut.items c.in_ok-written.field-0.bytes.items ranges (least k).reached (written_is w) in
    subst (λ xs. IsCut (Normal (to_z w16 n)) xs ranges) (sym c.deref-2.ensures.value)
    (subst (λ u. IsCut u c.in_ok-written.field-0.bytes.items ranges) (sym (version_is n c.requires.at_most)) own)

pub ended_bits-requires-clause-room : goal.ended_bits-requires-clause-room
ended_bits-requires-clause-room c =
    let k = (goal.at.ended_bits-requires-clause-room c).In_ok-cut in
    let w = (goal.at.ended_bits-requires-clause-room c).In_ok-written in
    let n = c.args.number in
    let ranges = c.in_ok-written.field-0.segments.items in
    let cost = written_cost n c.args.bytes.now c.in_ok-cut.cut.items c.in_ok-written.field-0.bytes.items ranges (written_is w) in
    subst (λ u. length (mark c.args.position) + total_cost u ranges ≤ capacity u c.args.ec_level) (sym (version_is n c.requires.at_most)) (omega (arith, cost, room k))

pub returns-clause-bits : goal.returns-clause-bits
returns-clause-bits c =
    let k = (goal.at.returns-clause-bits c).In_ok-cut in
    let w = (goal.at.returns-clause-bits c).In_ok-written in
    let n = c.args.number in
    marked_list c.args.position n c.args.ec_level c.args.bytes.now c.in_ok-cut.cut.items (Normal (to_z w16 n)) c.deref-2.result.now c.in_ok-written.field-0.segments.items c.ended_bits.result
    (version_is n c.requires.at_most) (subst (λ xs. AreCharacters c.args.bytes.now c.in_ok-cut.cut.items xs c.in_ok-written.field-0.segments.items) (sym c.deref-2.ensures.value) (written_is w))
    c.requires.holds.exists (least k) (room k) c.ended_bits.ensures.ends c.ended_bits.ensures.full
