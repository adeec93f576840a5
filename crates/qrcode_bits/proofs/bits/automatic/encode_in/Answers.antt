use Rattle.std.proofs.Common.{◌≡◌, arith, refl, sym, ◌∙◌, inl, inr, true≢false}
use Rattle.qrcode_types.specs.declared.types.QrError.{QrError}
use Rattle.qrcode_types.specs.declared.types.QrError.TheVariants.{DataTooLong, OutOfMemory}
use Rattle.qrcode_bits.specs.Choice.{IsRefusedIn}
use Rattle.qrcode_bits.proofs.Automatic.{held_short, held_by, IsRefusedBehind, refused_behind, refused_search}
use Rattle.qrcode_bits.proofs.Given.{if_ok, if_err}
use Rattle.qrcode_bits.proofs.Several.{handed_on}
use Rattle.qrcode_bits.proofs.bits.automatic.encode_in.Goals as goal
use Rattle.qrcode_bits.proofs.bits.automatic.encode_in.Goals.{Else-not-has_front}

pub returns-then-bytes-gt-DATA_LIMIT-clause-accepts : goal.returns-then-bytes-gt-DATA_LIMIT-clause-accepts
returns-then-bytes-gt-DATA_LIMIT-clause-accepts c = λ holds.
    absurd (omega (arith, c.if-bytes-gt-DATA_LIMIT.true, held_short c.args.manner c.args.version c.args.ec_level c.args.bytes.now holds))

-- the version exists, the data is short, and the version can have the bits in front
behind : (c : Else-not-has_front) (e : QrError) → IsRefusedBehind c.args.manner c.args.version c.args.ec_level c.args.bytes.now e → IsRefusedIn c.args.manner c.args.version c.args.ec_level c.args.bytes.now e
behind c e cause =
    refused_behind c.args.manner c.args.version c.args.ec_level c.args.bytes.now e
    (sym c.is_valid.ensures ∙ c.if-not-is_valid.false) (omega (arith, c.if-bytes-gt-DATA_LIMIT.false)) (sym c.has_front.ensures ∙ c.if-not-has_front.false) cause

pub returns-in_err-chosen-clause-accepts : goal.returns-in_err-chosen-clause-accepts
returns-in_err-chosen-clause-accepts c = λ holds.
    let fits = holds.room in
    handed_on c.from_residual.result c.in_err-chosen.field-0.0 (λ e. e ≡ OutOfMemory) c.from_residual.ensures (c.in_err-chosen.ensures.refusals.accepts fits.0 fits.1.0)

pub returns-in_err-chosen-clause-causes : goal.returns-in_err-chosen-clause-causes
returns-in_err-chosen-clause-causes c =
    let k = (goal.at.returns-in_err-chosen-clause-causes c).Else-not-has_front in
    let e = c.in_err-chosen.field-0.0 in
    let said = c.in_err-chosen.ensures.refusals in
    handed_on c.from_residual.result e (IsRefusedIn c.args.manner c.args.version c.args.ec_level c.args.bytes.now) c.from_residual.ensures
    (behind k e (refused_search c.args.manner c.args.version c.args.ec_level c.args.bytes.now e said.causes (λ none. (let h = said.no_cut none in cc)) said.accepts))

pub returns-then-chosen-room-clause-accepts : goal.returns-then-chosen-room-clause-accepts
returns-then-chosen-room-clause-accepts c = λ holds.
    let fits = holds.room in
    let measured = c.in_ok-chosen.ensures.measured in
    absurd (omega (arith, c.if-chosen-room.true, c.in-Some.ensures.value, measured.used, measured.least.least fits.0 fits.1.0, fits.1.1))

pub returns-then-chosen-room-clause-causes : goal.returns-then-chosen-room-clause-causes
returns-then-chosen-room-clause-causes c =
    let k = (goal.at.returns-then-chosen-room-clause-causes c).Else-not-has_front in
    let measured = c.in_ok-chosen.ensures.measured in
    behind k DataTooLong (inr (
      λ none. none c.in_ok-chosen.chosen.segments.items measured.least.reached,
      inr (inr (
        λ no. true≢false (c.in-Some.ensures.exists ∙ no),
        (λ holds. (let fits = holds.room in omega (arith, c.if-chosen-room.true, c.in-Some.ensures.value, measured.used, measured.least.least fits.0 fits.1.0, fits.1.1)), refl),
      )),
    ))

pub encode_chosen-requires : goal.encode_chosen-requires
encode_chosen-requires c =
    record {
      held =
          held_by c.args.manner c.args.version c.args.ec_level c.args.bytes.now c.in_ok-chosen.chosen c.in_ok-chosen.ensures.measured
          (sym c.in-Some.ensures.exists) (sym c.has_front.ensures ∙ c.if-not-has_front.false) (omega (arith, c.if-chosen-room.false, c.in-Some.ensures.value));
    }

pub returns-clause-version : goal.returns-clause-version
returns-clause-version c = if_ok c.encode_chosen.result (λ bits is. is ∙ c.in_ok-chosen.ensures.measured.version) c.encode_chosen.ensures.version

pub returns-clause-causes : goal.returns-clause-causes
returns-clause-causes c =
    let k = (goal.at.returns-clause-causes c).Else-not-has_front in
    let measured = c.in_ok-chosen.ensures.measured in
    if_err c.encode_chosen.result (λ e memory. behind k e (inr (λ none. none c.in_ok-chosen.chosen.segments.items measured.least.reached, inl memory))) c.encode_chosen.ensures.memory
