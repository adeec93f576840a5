use Rattle.std.proofs.Common.{◌≡◌, ◌+◌, ◌≤◌, ◌++◌, List, ℕ, length, IsTrue, sym, ap, subst, ◌∙◌}
use Rattle.qrcode_types.specs.Versions.{has_level, capacity}
use Rattle.qrcode_bits.specs.BitList.{BitList}
use Rattle.qrcode_bits.specs.Cuts.{IsCut}
use Rattle.qrcode_bits.specs.Segments.{total_cost}
use Rattle.qrcode_bits.specs.Written.{pieces_of, written, terminated}
use Rattle.qrcode_bits.proofs.Changed.{list_of}
use Rattle.qrcode_charsets.specs.Fronts.{front}
use Rattle.qrcode_charsets.proofs.shortest.drawing.ended_bits.Goals as goal
use Rattle.qrcode_charsets.proofs.shortest.drawing.ended_bits.Goals.{In_ok-bits}

fronted : (c : In_ok-bits) → c.in_ok-bits.bits ≡ list_of c.args.version (front c.args.measured.set)
fronted c = c.in_ok-bits.ensures.value

pub end_with-requires-clause-exists : goal.end_with-requires-clause-exists
end_with-requires-clause-exists c =
    let k = (goal.at.end_with-requires-clause-exists c).In_ok-bits in
    subst (λ (b : BitList). IsTrue (has_level b.version c.args.ec_level)) (sym (fronted k)) c.requires.exists

pub end_with-requires-clause-cut : goal.end_with-requires-clause-cut
end_with-requires-clause-cut c =
    let k = (goal.at.end_with-requires-clause-cut c).In_ok-bits in
    let segments = c.args.measured.segments.items in
    subst (λ (b : BitList). IsCut b.version c.deref.result.now segments) (sym (fronted k))
    (subst (λ (xs : List ℕ). IsCut c.args.version xs segments) (sym c.deref.ensures.value) c.requires.cut)

pub end_with-requires-clause-room : goal.end_with-requires-clause-room
end_with-requires-clause-room c =
    let k = (goal.at.end_with-requires-clause-room c).In_ok-bits in
    let segments = c.args.measured.segments.items in
    subst (λ (b : BitList). length b.bits + total_cost b.version segments ≤ capacity b.version c.args.ec_level) (sym (fronted k)) c.requires.room

pub returns-clause-ends : goal.returns-clause-ends
returns-clause-ends c =
    let k = (goal.at.returns-clause-ends c).In_ok-bits in
    let l = c.args.ec_level in
    let m = c.args.measured in
    let segments = m.segments.items in
    c.in_ok-end_with.ensures.ends
    ∙ ap (λ (b : BitList). list_of b.version (terminated b.version l (b.bits ++ written b.version (pieces_of c.deref.result.now segments)))) (fronted k)
    ∙ ap (λ (xs : List ℕ). list_of c.args.version (terminated c.args.version l (front m.set ++ written c.args.version (pieces_of xs segments)))) c.deref.ensures.value

pub returns-clause-full : goal.returns-clause-full
returns-clause-full c =
    let k = (goal.at.returns-clause-full c).In_ok-bits in
    c.in_ok-end_with.ensures.full ∙ ap (λ (b : BitList). capacity b.version c.args.ec_level) (fronted k)
