use Rattle.std.proofs.Common.{◌≡◌, ℕ, ◌+◌, ◌*◌, ◌<◌, rules, length, ap, ◌∙◌, arith}
use Rattle.std.proofs.lemmas.Nat.{mul-add-lt}
use Rattle.qrcode_types.specs.Versions.{side}
use Rattle.qrcode_symbol.specs.declared.canvas.Module.TheVariants.{Masked}
use Rattle.qrcode_layout.proofs.FigurePlaces.{fits_across, fits_down}
use Rattle.qrcode_symbol.proofs.Patterned.{figure_at, no_column, place_more}
use Rattle.qrcode_symbol.proofs.canvas.drawing.draw_row.Goals as goal

pub loop-column-init : goal.loop-column-init
loop-column-init c = no_column c.args.version c.args.figure.now c.args.row (c.args.row + 1) c.args.modules.now

pub loop-column-preserved : goal.loop-column-preserved
loop-column-preserved c =
    let v = c.args.version in
    let f = c.args.figure.now in
    let column = c.loop-column.column in
    let index = (f.top + c.args.row) * c.side-width.result + (f.left + column) in
    let at : index ≡ (f.top + c.args.row) * side v + (f.left + column) = ap (λ w. (f.top + c.args.row) * w + (f.left + column)) c.side-width.ensures.value in
    let across = fits_across v f c.requires.fits in
    let down = fits_down v f c.requires.fits in
    let drawn = ap Masked c.color.ensures ∙ figure_at v f column c.args.row in
    place_more v f c.args.row column index c.args.modules.now c.loop-column.modules (Masked c.color.result)
    (omega arith) (omega arith) (omega arith) at drawn c.loop-column.invariant

pub offset_bounds-modules-y : goal.offset_bounds-modules-y
offset_bounds-modules-y c =
    let v = c.args.version in
    let f = c.args.figure.now in
    let w = c.side-width.result in
    let e : w ≡ side v = c.side-width.ensures.value in
    let across = fits_across v f c.requires.fits in
    let down = fits_down v f c.requires.fits in
    let square : w * w ≡ side v * side v = ap (λ (n : ℕ). n * n) e in
    let inside : (f.top + c.args.row) * w + (f.left + c.loop-column.column) < length c.loop-column.modules =
    omega (arith, square, mul-add-lt (f.top + c.args.row) w (f.left + c.loop-column.column) w (omega arith) (omega arith)) in
    search rules
