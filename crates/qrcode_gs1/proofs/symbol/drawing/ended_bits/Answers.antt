use Rattle.std.proofs.Common.{◌≡◌, ◌+◌, ◌≤◌, ◌++◌, length, IsTrue, sym, ap, subst, ◌∙◌}
use Rattle.qrcode_types.specs.Versions.{has_level, capacity}
use Rattle.qrcode_bits.specs.BitList.{BitList}
use Rattle.qrcode_bits.specs.Cuts.{IsCut}
use Rattle.qrcode_bits.specs.Pushes.{with_bits}
use Rattle.qrcode_bits.specs.Segments.{total_cost}
use Rattle.qrcode_bits.specs.Written.{pieces_of, written, terminated}
use Rattle.qrcode_bits.proofs.Changed.{list_of}
use Rattle.qrcode_gs1.specs.symbol.Characters.{mark}
use Rattle.qrcode_gs1.proofs.symbol.drawing.ended_bits.Goals as goal
use Rattle.qrcode_gs1.proofs.symbol.drawing.ended_bits.Goals.{In_ok-push_mark}

marked : (c : In_ok-push_mark) → c.push_mark.new.bits ≡ list_of c.args.version (mark c.args.position)
marked c = c.in_ok-push_mark.ensures.appends ∙ ap (λ (b : BitList). with_bits b (mark c.args.position)) c.new-bits.ensures.empty

pub end_with-requires-clause-exists : goal.end_with-requires-clause-exists
end_with-requires-clause-exists c =
    let k = (goal.at.end_with-requires-clause-exists c).In_ok-push_mark in
    subst (λ (b : BitList). IsTrue (has_level b.version c.args.ec_level)) (sym (marked k)) c.requires.exists

pub end_with-requires-clause-cut : goal.end_with-requires-clause-cut
end_with-requires-clause-cut c =
    let k = (goal.at.end_with-requires-clause-cut c).In_ok-push_mark in
    subst (λ (b : BitList). IsCut b.version c.args.bytes.now c.args.segments.items) (sym (marked k)) c.requires.cut

pub end_with-requires-clause-room : goal.end_with-requires-clause-room
end_with-requires-clause-room c =
    let k = (goal.at.end_with-requires-clause-room c).In_ok-push_mark in
    subst (λ (b : BitList). length b.bits + total_cost b.version c.args.segments.items ≤ capacity b.version c.args.ec_level) (sym (marked k)) c.requires.room

pub returns-clause-ends : goal.returns-clause-ends
returns-clause-ends c =
    let k = (goal.at.returns-clause-ends c).In_ok-push_mark in
    let l = c.args.ec_level in
    let pieces = pieces_of c.args.bytes.now c.args.segments.items in
    c.in_ok-end_with.ensures.ends ∙ ap (λ (b : BitList). list_of b.version (terminated b.version l (b.bits ++ written b.version pieces))) (marked k)

pub returns-clause-full : goal.returns-clause-full
returns-clause-full c =
    let k = (goal.at.returns-clause-full c).In_ok-push_mark in
    c.in_ok-end_with.ensures.full ∙ ap (λ (b : BitList). capacity b.version c.args.ec_level) (marked k)
