use Rattle.std.proofs.Common.{length, refl, sym, ◌∙◌, arith, inr}
use Rattle.std.specs.Prelude.{chars}
use Rattle.qrcode_types.specs.declared.types.QrError.TheVariants.{DataTooLong}
use Rattle.qrcode_charsets.specs.Laid.{IsLeastLaid}
use Rattle.qrcode_charsets.proofs.Causes.{room_short}
use Rattle.qrcode_charsets.proofs.Given.{refused_behind, none_room, none_fits, some_laid}
use Rattle.qrcode_charsets.proofs.Leasts.{match_none, match_some}
use Rattle.qrcode_charsets.proofs.Lists.{can_room}
use Rattle.qrcode_charsets.proofs.shortest.choice.choose_in.Goals as goal
use Rattle.qrcode_charsets.proofs.shortest.choice.choose_in.Goals.{In-Some-2}

is_least : (c : In-Some-2) → IsLeastLaid c.args.sets.now c.args.version (chars c.args.text.now) (length c.args.sets.now) c.in-Some-2.measured
is_least c = match_some _ _ c.in_ok-measured.field-0 c.in-Some-2.measured c.in-Some-2.is c.in_ok-measured.ensures.measured

pub returns-then-text-gt-DATA_LIMIT-clause-accepts : goal.returns-then-text-gt-DATA_LIMIT-clause-accepts
returns-then-text-gt-DATA_LIMIT-clause-accepts c = λ room.
    absurd (omega (arith, c.if-text-gt-DATA_LIMIT.true, room_short c.args.sets.now c.args.version c.args.ec_level c.args.text.now c.utf8.text room))

pub returns-in_default-2-clause-accepts : goal.returns-in_default-2-clause-accepts
returns-in_default-2-clause-accepts c = λ room.
    absurd (none_room c.args.sets.now c.args.version c.args.ec_level c.args.text.now (match_none _ _ c.in_ok-measured.field-0 c.in_default-2.is c.in_ok-measured.ensures.measured) room)

pub returns-then-measured-room-clause-accepts : goal.returns-then-measured-room-clause-accepts
returns-then-measured-room-clause-accepts c = λ room.
    let k = (goal.at.returns-then-measured-room-clause-accepts c).In-Some-2 in
    absurd (none_fits c.args.sets.now c.args.version c.args.ec_level c.args.text.now c.in-Some-2.measured (is_least k) (omega (arith, c.if-measured-room.true, c.in-Some.ensures.value)) room)

pub returns-then-measured-room-clause-causes : goal.returns-then-measured-room-clause-causes
returns-then-measured-room-clause-causes c =
    let k = (goal.at.returns-then-measured-room-clause-causes c).In-Some-2 in
    let sets = c.args.sets.now in
    let v = c.args.version in
    let l = c.args.ec_level in
    let text = c.args.text.now in
    let m = c.in-Some-2.measured in
    let fits = none_fits sets v l text m (is_least k) (omega (arith, c.if-measured-room.true, c.in-Some.ensures.value)) in
    refused_behind sets v l text (sym c.is_valid.ensures ∙ c.if-not-is_valid.false) (omega (arith, c.if-text-gt-DATA_LIMIT.false)) (c.any_has.ensures.has c.if-not-any_has.false)
    (sym c.in-Some.ensures.exists) DataTooLong (inr (inr (some_laid sets v l text m (is_least k), ((λ can. fits (can_room sets v l (chars text) can)), refl))))
