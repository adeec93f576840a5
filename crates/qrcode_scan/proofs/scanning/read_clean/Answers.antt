use Rattle.std.proofs.Common.{◌≡◌, ◌∙◌, ◌*◌, ◌⊎◌, ℕ, List, length, sym, ap, subst, rules}
use Rattle.qrcode_types.specs.declared.types.Color.{Color}
use Rattle.qrcode_scan.specs.Squares.{IsSquareIn}
use Rattle.qrcode_reader.specs.Positions.{IsFirstPartsReading}
use Rattle.qrcode_reader.specs.Readings.{IsPartsCause}
use Rattle.qrcode_reader.specs.declared.refusals.Unread as reading
use Rattle.qrcode_scan.specs.Scans.{IsLeastSquareIn, IsUnreadIn}
use Rattle.qrcode_scan.proofs.WhyUnread.{HasNone, unread_square}
use Rattle.qrcode_scan.proofs.scanning.read_clean.Goals as goal

pub returns-in-Err-clause-causes : goal.returns-in-Err-clause-causes
returns-in-Err-clause-causes c =
    let s = c.in-Some.square in
    let e = c.in-Err.error in
    let square : IsLeastSquareIn c.args.pixels.now s.count s.zone s.scale s.modules.items = search rules in
    let same : c.deref.result.now ≡ s.modules.items = search rules in
    subst (IsUnreadIn c.args.pixels.now) (sym c.no_symbol.ensures)
    (unread_square c.args.pixels.now s.count s.zone s.scale s.modules.items e square
    (subst (λ (m : List Color). (e ≡ reading.TheVariants.OutOfMemory) ⊎ (IsPartsCause m e × ((side : ℕ) → side * side ≡ length m → HasNone side m))) same c.in-Err.ensures.causes))

pub scan_of-requires : goal.scan_of-requires
scan_of-requires c =
    let s = c.in-Some.square in
    let any = c.in-Ok.any in
    let square : IsSquareIn c.args.pixels.now s.count s.zone s.scale s.modules.items = search rules in
    let same : c.deref.result.now ≡ s.modules.items = search rules in
    subst
    (λ (m : List Color). IsFirstPartsReading s.count m any.position any.is_inverted any.reading.version any.reading.ec_level any.reading.mask any.reading.parts.bytes.items
    any.reading.parts.parts.items any.reading.wrong.items)
    same (c.in-Ok.ensures.value s.count (sym square.square ∙ ap length (sym same)))
