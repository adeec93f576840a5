use Rattle.std.proofs.Common.{◌≡◌, ◌+◌, ◌≤◌, ◌++◌, length, IsTrue, sym, arith, ap, subst, ◌∙◌}
use Rattle.qrcode_types.specs.Versions.{has_level, capacity}
use Rattle.qrcode_bits.specs.BitList.{BitList}
use Rattle.qrcode_bits.specs.Cuts.{IsCut, IsLeastCutIn}
use Rattle.qrcode_bits.specs.Manners.{modes_of}
use Rattle.qrcode_bits.specs.Pushes.{with_bits}
use Rattle.qrcode_bits.specs.Segments.{total_cost}
use Rattle.qrcode_bits.specs.StructuredAppend.{append_front, SpellsPart}
use Rattle.qrcode_bits.specs.Written.{pieces_of, written, terminated}
use Rattle.qrcode_bits.proofs.Changed.{list_of}
use Rattle.qrcode_bits.proofs.Manners.{valid_of}
use Rattle.qrcode_append.specs.Symbols.{front_length}
use Rattle.qrcode_append.proofs.Fronts.{length-front}
use Rattle.qrcode_append.proofs.Parts.{part_spelled}
use Rattle.qrcode_append.proofs.drawing.part_bits.Goals as goal
use Rattle.qrcode_append.proofs.drawing.part_bits.Goals.{In_ok-segments, In_ok-push_front}

least : (c : In_ok-segments) → IsLeastCutIn (modes_of c.args.wanted.manner) c.args.wanted.version c.args.bytes.now c.in_ok-segments.segments.items
least c = subst (λ set. IsLeastCutIn set c.args.wanted.version c.args.bytes.now c.in_ok-segments.segments.items) c.modes.ensures c.in_ok-segments.ensures.least

room : (c : In_ok-segments) → front_length c.args.share.last + total_cost c.args.wanted.version c.in_ok-segments.segments.items ≤ capacity c.args.wanted.version c.args.wanted.ec_level
room c = let fits = c.requires.room in omega (arith, (least c).least fits.0 fits.1.0, fits.1.1)

fronted : (c : In_ok-push_front) → c.push_front.new.bits ≡ list_of c.args.wanted.version (append_front c.args.share.place c.args.share.last c.args.share.parity)
fronted c = c.in_ok-push_front.ensures.appends ∙ ap (λ (b : BitList). with_bits b (append_front c.args.share.place c.args.share.last c.args.share.parity)) c.new-bits.ensures.empty

pub end_with-requires-clause-exists : goal.end_with-requires-clause-exists
end_with-requires-clause-exists c =
    let k = (goal.at.end_with-requires-clause-exists c).In_ok-push_front in
    subst (λ (b : BitList). IsTrue (has_level b.version c.args.wanted.ec_level)) (sym (fronted k)) c.requires.exists

pub end_with-requires-clause-cut : goal.end_with-requires-clause-cut
end_with-requires-clause-cut c =
    let k = (goal.at.end_with-requires-clause-cut c).In_ok-push_front in
    let s = (goal.at.end_with-requires-clause-cut c).In_ok-segments in
    subst (λ (b : BitList). IsCut b.version c.args.bytes.now c.in_ok-segments.segments.items) (sym (fronted k)) (least s).reached.cut

pub end_with-requires-clause-room : goal.end_with-requires-clause-room
end_with-requires-clause-room c =
    let k = (goal.at.end_with-requires-clause-room c).In_ok-push_front in
    let s = (goal.at.end_with-requires-clause-room c).In_ok-segments in
    let ss = c.in_ok-segments.segments.items in
    let v = c.args.wanted.version in
    let l = c.args.wanted.ec_level in
    let own : length (append_front c.args.share.place c.args.share.last c.args.share.parity) + total_cost v ss ≤ capacity v l =
    omega (arith, length-front c.args.share.place c.args.share.last c.args.share.parity, room s) in
    subst (λ (b : BitList). length b.bits + total_cost b.version ss ≤ capacity b.version l) (sym (fronted k)) own

pub returns-clause-bits : goal.returns-clause-bits
returns-clause-bits c =
    let k = (goal.at.returns-clause-bits c).In_ok-push_front in
    let s = (goal.at.returns-clause-bits c).In_ok-segments in
    let v = c.args.wanted.version in
    let l = c.args.wanted.ec_level in
    let share = c.args.share in
    let front = append_front share.place share.last share.parity in
    let bytes = c.args.bytes.now in
    let ss = c.in_ok-segments.segments.items in
    let ended = c.in_ok-end_with.ensures in
    let is : c.end_with.new.self ≡ list_of v (terminated v l (front ++ written v (pieces_of bytes ss))) =
    ended.ends ∙ ap (λ (b : BitList). list_of b.version (terminated b.version l (b.bits ++ written b.version (pieces_of bytes ss)))) (fronted k) in
    record {
      version = ap (λ (b : BitList). b.version) is;
      segments = ss;
      least = least s;
      bits = ap (λ (b : BitList). b.bits) is;
      full = ended.full ∙ ap (λ (b : BitList). capacity b.version l) (fronted k);
      spelled = subst (λ b. SpellsPart v b share.place share.last share.parity bytes) (sym (ap (λ (b : BitList). b.bits) is)) (part_spelled v l share.place share.last share.parity bytes ss (valid_of v l c.requires.exists) c.requires.normal (least s).reached.cut (room s));
    }
