use Rattle.std.proofs.Common.{ap, length, map, sym, ◌∙◌}
use Rattle.std.proofs.lemmas.List.{length-map}
use Rattle.qrcode_png.specs.Image.{rgba}
use Rattle.qrcode_sheets.specs.Sheets.{sheet_of}
use Rattle.qrcode_sheets.proofs.Layered.{length_pixels}
use Rattle.qrcode_sheets.proofs.shades.png_file.Goals as goal

pub full_color-requires-clause-square : goal.full_color-requires-clause-square
full_color-requires-clause-square c =
    sym (length-map c.deref.result.now rgba) ∙ ap (λ p. length (map rgba p)) c.deref.ensures.value ∙ ap length c.in_ok-pixels.ensures
    ∙ length_pixels (sheet_of c.args.sheet.now) _
