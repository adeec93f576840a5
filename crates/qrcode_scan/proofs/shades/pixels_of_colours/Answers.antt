use Rattle.std.proofs.Common.{◌≡◌, ◌∙◌, ◌+◌, ◌*◌, ℕ, Bool, List, map, ap, sym}
use Rattle.std.specs.Prelude.{nat_lt}
use Rattle.std.proofs.lemmas.Simd.{map-map}
use Rattle.qrcode_render.specs.Bitmap.{Bitmap}
use Rattle.qrcode_scan.specs.Shades.{lightness_of, least_of, greatest_of}
use Rattle.qrcode_scan.proofs.shades.pixels_of_colours.Goals as goal

pub returns-clause-value : goal.returns-clause-value
returns-clause-value c =
    let colours = c.args.colours.now in
    let shades = map lightness_of colours in
    let limit = c.middle_of.result in
    let pixels : List Bool → Bitmap = λ marks. record { across = c.args.across; down = c.args.down; marks = marks } in
    let darker : c.in_ok-marks.marks.items ≡ map (λ s. nat_lt (2 * s) (least_of 65025000 shades + greatest_of 0 shades)) shades =
    c.in_ok-marks.ensures.value
    ∙ sym (map-map (λ (s : ℕ). nat_lt (2 * s) limit) lightness_of colours)
    ∙ ap (λ (n : ℕ). map (λ (s : ℕ). nat_lt (2 * s) n) shades) c.middle_of.ensures
    in
    c.new.ensures ∙ ap pixels darker
