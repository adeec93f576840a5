use Rattle.std.proofs.Common.{Bool, sym, subst, ◌∙◌, IfOk}
use Rattle.qrcode_sheets.specs.Drawn.{IsPng}
use Rattle.qrcode_sheets.specs.Sheets.{sheet_of}
use Rattle.qrcode_sheets.proofs.render.png.Goals as goal

pub returns-then-has_layers-clause-shows : goal.returns-then-has_layers-clause-shows
returns-then-has_layers-clause-shows c =
    subst (λ (b : Bool). IfOk c.png_file.result (λ file. IsPng b (sheet_of c.args.sheet.now) file.items)) (sym c.if-has_layers.true ∙ c.has_layers.ensures) c.png_file.ensures.shows

pub returns-clause-shows : goal.returns-clause-shows
returns-clause-shows c =
    subst (λ (b : Bool). IfOk c.two_colours.result (λ file. IsPng b (sheet_of c.args.sheet.now) file.items)) (sym c.if-has_layers.false ∙ c.has_layers.ensures) c.two_colours.ensures.shows
