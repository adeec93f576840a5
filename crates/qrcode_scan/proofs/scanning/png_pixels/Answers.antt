use Rattle.std.proofs.Common.{map, ap, ◌∙◌}
use Rattle.qrcode_scan.specs.Shades.{lightness_of}
use Rattle.qrcode_scan.proofs.Seen.{AreOf, bitmap, shown_by}
use Rattle.qrcode_scan.proofs.scanning.png_pixels.Goals as goal

pub returns-in-Ok-pixels_of_colours-clause-value : goal.returns-in-Ok-pixels_of_colours-clause-value
returns-in-Ok-pixels_of_colours-clause-value c =
    let across = c.sides-across.result.0 in
    let down = c.sides-across.result.1 in
    let colours = c.in_ok-colours.colours.items in
    let of : AreOf c.args.bytes.now c.in-Ok.picture across down colours = record {
      shown = c.in-Ok.ensures.shown;
      width = c.sides-across.ensures.across;
      height = c.sides-across.ensures.down;
      same = c.in_ok-colours.ensures;
    } in
    shown_by c.args.bytes.now c.in-Ok.picture across down colours c.in-Ok-pixels_of_colours.pixels of
    (c.in-Ok-pixels_of_colours.ensures.value ∙ ap (λ l. bitmap across down (map lightness_of l)) c.deref.ensures.value)
