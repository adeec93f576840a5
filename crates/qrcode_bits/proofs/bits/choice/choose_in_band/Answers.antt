use Rattle.std.proofs.Common.{◌≡◌, pos, arith, sym, ap, subst, ◌∙◌, w16, to_z}
use Rattle.std.proofs.lemmas.Int.{to_z_pos}
use Rattle.qrcode_types.proofs.Writing.{are_bytes}
use Rattle.qrcode_types.specs.Versions.{capacity}
use Rattle.qrcode_types.specs.declared.types.Version.TheVariants.{Normal}
use Rattle.qrcode_types.specs.declared.types.QrError.TheVariants.{OutOfMemory}
use Rattle.qrcode_bits.specs.Cuts.{IsCutIn}
use Rattle.qrcode_bits.specs.Chosen.{IsMeasured}
use Rattle.qrcode_bits.specs.Manners.{modes_of}
use Rattle.qrcode_bits.proofs.Bands.{byte_cut_as, last_of, last_of-most}
use Rattle.qrcode_bits.proofs.Several.{handed_on}
use Rattle.qrcode_bits.proofs.Manners.{none_in_band, first_in_band}
use Rattle.qrcode_bits.proofs.bits.choice.choose_in_band.Goals as goal
use Rattle.qrcode_bits.proofs.bits.choice.choose_in_band.Goals.{After-last_in_band-last, In_ok-chosen}

last_is : (c : After-last_in_band-last) → Normal (to_z w16 c.last_in_band-last.result) ≡ Normal (pos (last_of c.args.first))
last_is c =
    ap Normal (to_z_pos w16 c.last_in_band-last.result (omega (arith, c.last_in_band-last.ensures, last_of-most c.args.first)))
    ∙ ap (λ n. Normal (pos n)) c.last_in_band-last.ensures

pub returns-then-wanted-room-clause-chosen : goal.returns-then-wanted-room-clause-chosen
returns-then-wanted-room-clause-chosen c =
    none_in_band c.args.wanted.manner c.args.wanted.ec_level c.args.bytes.now c.args.first c.requires.at_least
    (λ fits. omega (arith, c.if-wanted-room.true, c.normal_capacity-room.ensures, ap (λ n. capacity (Normal (pos n)) c.args.wanted.ec_level) c.last_in_band-last.ensures, c.requires.least _ fits.0 fits.1.0.cut, fits.1.1))

pub returns-in_err-chosen-clause-memory : goal.returns-in_err-chosen-clause-memory
returns-in_err-chosen-clause-memory c =
    let k = (goal.at.returns-in_err-chosen-clause-memory c).After-last_in_band-last in
    let m = c.args.wanted.manner in
    let bytes = c.args.bytes.now in
    let cut = byte_cut_as m (last_of c.args.first) bytes (are_bytes bytes (λ k. omega (arith, c.type_inv.bytes k))) in
    handed_on c.from_residual.result c.in_err-chosen.field-0.0 (λ e. e ≡ OutOfMemory) c.from_residual.ensures
    (c.in_err-chosen.ensures.refusals.accepts cut.0 (subst (λ v. IsCutIn (modes_of m) v bytes cut.0) (sym (last_is k)) cut.1.0))

pub returns-then-chosen-room-clause-chosen : goal.returns-then-chosen-room-clause-chosen
returns-then-chosen-room-clause-chosen c =
    let k = (goal.at.returns-then-chosen-room-clause-chosen c).After-last_in_band-last in
    let m = c.args.wanted.manner in
    let known = subst (λ v. IsMeasured m v c.args.bytes.now c.in_ok-chosen.chosen) (last_is k) c.in_ok-chosen.ensures.measured in
    none_in_band m c.args.wanted.ec_level c.args.bytes.now c.args.first c.requires.at_least
    (λ fits. omega (arith, c.if-chosen-room.true, c.normal_capacity-room.ensures, ap (λ n. capacity (Normal (pos n)) c.args.wanted.ec_level) c.last_in_band-last.ensures, known.used, known.least.least fits.0 fits.1.0, fits.1.1))

pub returns-clause-chosen : goal.returns-clause-chosen
returns-clause-chosen c =
    let k = (goal.at.returns-clause-chosen c).After-last_in_band-last in
    let m = c.args.wanted.manner in
    let n = c.first_with_room-number.result in
    let found = c.first_with_room-number.ensures in
    let last = c.last_in_band-last.ensures in
    let known = subst (λ v. IsMeasured m v c.args.bytes.now c.in_ok-chosen.chosen) (last_is k) c.in_ok-chosen.ensures.measured in
    first_in_band m c.args.wanted.ec_level c.args.bytes.now c.args.first n
    (record c.in_ok-chosen.chosen { version = Normal (to_z w16 n) }) c.requires.at_least found.at_least (omega (arith, found.at_most, last))
    (ap Normal (to_z_pos w16 n (omega (arith, found.at_most, last, last_of-most c.args.first)))) known.least known.used found.room found.least
