use Rattle.std.proofs.Common.{◌≡◌, ◌≤◌, ◌++◌, None, refl, length, sym, ap, subst, ◌∙◌, arith}
use Rattle.std.proofs.lemmas.Grind.{common_steps}
use Rattle.qrcode_types.specs.declared.types.QrError.TheVariants.{InvalidCharacter}
use Rattle.qrcode_bits.specs.BitList.{BitList}
use Rattle.qrcode_bits.specs.Pushes.{with_bits}
use Rattle.qrcode_bits.specs.Refusals.{count_refusal, bit_limit}
use Rattle.qrcode_types.specs.Characters.{character_count}
use Rattle.qrcode_bits.specs.Written.{Piece, written_piece}
use Rattle.qrcode_bits.proofs.Changed.{list_of, refused, changed, starved_by, pushes, good_bytes, bad_bytes, room_after}
use Rattle.qrcode_bits.proofs.bits.Bits.push_piece.Goals as goal
use Rattle.qrcode_bits.proofs.bits.Bits.push_piece.Goals.{In_ok-length}

-- the count of the piece is not refused
counted : (c : In_ok-length) → count_refusal c.args.self.now.version (length c.args.self.now.bits) c.args.mode (character_count c.args.mode (length c.args.bytes.now)) ≡ None
counted c = sym (ap (count_refusal c.args.self.now.version (length c.args.self.now.bits) c.args.mode) c.character_count.ensures) ∙ c.in_ok-length.ensures.value.1

pub returns-then-not-may_write : goal.returns-then-not-may_write
returns-then-not-may_write c =
    let k = (goal.at.returns-then-not-may_write c).In_ok-length in
    pushes _ _ _ _ _ (refused _ InvalidCharacter _ _ _ (bad_bytes c.args.self.now.version (length c.args.self.now.bits) (record { mode = c.args.mode; chunk = c.args.bytes.now }) (counted k) (sym c.if-not-may_write.ensures)) refl)

pub returns-in_err-reserve : goal.returns-in_err-reserve
returns-in_err-reserve c =
    let k = (goal.at.returns-in_err-reserve c).In_ok-length in
    let p : Piece = record { mode = c.args.mode; chunk = c.args.bytes.now } in
    pushes _ _ _ _ _ (starved_by _ _ _ _ _ c.from_residual-in_err-reserve.ensures (good_bytes c.args.self.now.version (length c.args.self.now.bits) p (counted k) (sym c.if-not-may_write.ensures))
    (ap (list_of c.self.inside.version) c.in_err-reserve.ensures.bits ∙ c.self.view_is))

pub invariant_of-self-2 : goal.invariant_of-self-2
invariant_of-self-2 c =
    let k = (goal.at.invariant_of-self-2 c).In_ok-length in
    let p : Piece = record { mode = c.args.mode; chunk = c.args.bytes.now } in
    let new : c.push_written.new.stream.bits ≡ c.self.inside.stream.bits ++ written_piece c.self.inside.version p = c.push_written.ensures ∙ ap (λ b. b ++ written_piece c.self.inside.version p) c.in_ok-reserve.ensures.bits in
    let after = subst (λ (l : BitList). length (l.bits ++ written_piece l.version p) ≤ bit_limit) (sym c.self.view_is) (room_after c.args.self.now.version c.args.self.now.bits p (counted k)) in
    (c.self.invariant.0, subst (λ b. length b ≤ bit_limit) (sym new) after)

pub returns : goal.returns
returns c =
    let k = (goal.at.returns c).In_ok-length in
    let p : Piece = record { mode = c.args.mode; chunk = c.args.bytes.now } in
    let new : c.push_written.new.stream.bits ≡ c.self.inside.stream.bits ++ written_piece c.self.inside.version p = c.push_written.ensures ∙ ap (λ b. b ++ written_piece c.self.inside.version p) c.in_ok-reserve.ensures.bits in
    pushes _ _ _ _ _ (changed _ _ _ _ (good_bytes c.args.self.now.version (length c.args.self.now.bits) p (counted k) (sym c.if-not-may_write.ensures))
    (ap (list_of c.self.inside.version) new ∙ ap (λ l. with_bits l (written_piece l.version p)) c.self.view_is))

pub reserve-requires : goal.reserve-requires
reserve-requires c = grind (arith, common_steps)
