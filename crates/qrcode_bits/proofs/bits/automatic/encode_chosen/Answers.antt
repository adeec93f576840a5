use Rattle.std.proofs.Common.{◌≡◌, ◌+◌, ◌≤◌, ◌++◌, length, sym, refl, arith, ap, subst, ◌∙◌, IsTrue}
use Rattle.qrcode_types.specs.Versions.{has_level, capacity}
use Rattle.qrcode_bits.specs.BitList.{BitList}
use Rattle.qrcode_bits.specs.Cuts.{IsCut}
use Rattle.qrcode_bits.specs.Encoded.{IsListAs}
use Rattle.qrcode_bits.specs.Manners.{front}
use Rattle.qrcode_bits.specs.Pushes.{with_bits}
use Rattle.qrcode_bits.specs.Segments.{total_cost}
use Rattle.qrcode_bits.specs.Written.{pieces_of, written, terminated}
use Rattle.qrcode_bits.proofs.Changed.{list_of}
use Rattle.qrcode_bits.proofs.Manners.{valid_of}
use Rattle.qrcode_bits.proofs.ShownTexts.{list_shown}
use Rattle.qrcode_bits.proofs.bits.automatic.encode_chosen.Goals as goal
use Rattle.qrcode_bits.proofs.bits.automatic.encode_chosen.Goals.{In_ok-push_front}

fronted : (c : In_ok-push_front) → c.push_front.new.self ≡ list_of c.args.chosen.version (front c.args.manner)
fronted c = c.in_ok-push_front.ensures.appends ∙ ap (λ (b : BitList). with_bits b (front c.args.manner)) c.new-bits.ensures.empty

pub end_with-requires-clause-exists : goal.end_with-requires-clause-exists
end_with-requires-clause-exists c =
    let k = (goal.at.end_with-requires-clause-exists c).In_ok-push_front in
    subst (λ (b : BitList). IsTrue (has_level b.version c.args.ec_level)) (sym (fronted k)) c.requires.held.exists

pub end_with-requires-clause-cut : goal.end_with-requires-clause-cut
end_with-requires-clause-cut c =
    let k = (goal.at.end_with-requires-clause-cut c).In_ok-push_front in
    subst (λ (b : BitList). IsCut b.version c.args.bytes.now c.args.chosen.segments.items) (sym (fronted k)) c.requires.held.measured.least.reached.cut

pub end_with-requires-clause-room : goal.end_with-requires-clause-room
end_with-requires-clause-room c =
    let k = (goal.at.end_with-requires-clause-room c).In_ok-push_front in
    let held = c.requires.held in
    let room : length (front c.args.manner) + total_cost c.args.chosen.version c.args.chosen.segments.items ≤ capacity c.args.chosen.version c.args.ec_level =
    omega (arith, held.measured.used, held.room) in
    subst (λ (b : BitList). length b.bits + total_cost b.version c.args.chosen.segments.items ≤ capacity b.version c.args.ec_level) (sym (fronted k)) room

pub returns-clause-bits : goal.returns-clause-bits
returns-clause-bits c =
    let k = (goal.at.returns-clause-bits c).In_ok-push_front in
    let m = c.args.manner in
    let v = c.args.chosen.version in
    let l = c.args.ec_level in
    let bytes = c.args.bytes.now in
    let ss = c.args.chosen.segments.items in
    let held = c.requires.held in
    let measured = held.measured in
    let room : length (front m) + total_cost v ss ≤ capacity v l = omega (arith, measured.used, held.room) in
    let ended = c.in_ok-end_with.ensures in
    let is : c.end_with.new.self ≡ list_of v (terminated v l (front m ++ written v (pieces_of bytes ss))) =
    ended.ends ∙ ap (λ (b : BitList). list_of b.version (terminated b.version l (b.bits ++ written b.version (pieces_of bytes ss)))) (fronted k) in
    let made : IsListAs m l bytes (list_of v (terminated v l (front m ++ written v (pieces_of bytes ss)))) = record {
      holds = record { exists = held.exists; front_exists = held.front_exists; room = (ss, (measured.least.reached, room)) };
      segments = ss;
      least = measured.least;
      bits = refl;
      full = sym (ap (λ (b : BitList). length b.bits) is) ∙ ended.full ∙ ap (λ (b : BitList). capacity b.version l) (fronted k);
      shown = λ text utf8. list_shown m v l bytes ss (valid_of v l held.exists) held.front_exists text utf8 measured.least room;
    } in
    subst (IsListAs m l bytes) (sym is) made
