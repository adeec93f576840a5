use Rattle.std.proofs.Common.{◌≡◌, ℕ, ◌+◌, ◌*◌, ◌<◌, rules, length, ap, arith}
use Rattle.std.proofs.lemmas.Nat.{mul-add-lt}
use Rattle.qrcode_types.specs.Versions.{side}
use Rattle.qrcode_layout.proofs.FigurePlaces.{fits_across, fits_down}
use Rattle.qrcode_reader.proofs.figures.wrong_at.Goals as goal

pub bounds-modules-y : goal.bounds-modules-y
bounds-modules-y c =
    let v = c.args.version in
    let f = c.args.figure.now in
    let w = c.side.result in
    let e : w ≡ side v = c.side.ensures.value in
    let across = fits_across v f c.requires.fits in
    let down = fits_down v f c.requires.fits in
    let square : w * w ≡ side v * side v = ap (λ (n : ℕ). n * n) e in
    let inside : (f.top + c.args.row) * w + (f.left + c.args.column) < length c.args.modules.now =
    omega (arith, square, mul-add-lt (f.top + c.args.row) w (f.left + c.args.column) w (omega arith) (omega arith)) in
    search rules
