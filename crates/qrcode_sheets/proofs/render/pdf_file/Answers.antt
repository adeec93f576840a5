use Rattle.std.proofs.Common.{rules, subst}
use Rattle.std.proofs.lemmas.Result.{IfOk-weaker}
use Rattle.std.specs.Prelude.{IfOk}
use Rattle.qrcode_sheets.specs.declared.formats.Format.TheVariants.{Pdf}
use Rattle.qrcode_sheets.specs.Drawn.{IsShapes}
use Rattle.qrcode_sheets.specs.Sheets.{sheet_of}
use Rattle.qrcode_sheets.proofs.render.pdf_file.Goals as goal

-- The file has what lies over its modules.
pub returns-clause-shows : goal.returns-clause-shows
returns-clause-shows c =
    let t = sheet_of c.args.sheet.now in
    let shows : IfOk c.with_extras.result (λ file. IsShapes Pdf t c.deref.result.now file.items) = search rules in
    IfOk-weaker c.with_extras.result _ _ (λ file is. (c.in_ok-over.over.items, (c.in_ok-over.ensures.value, subst (λ over. IsShapes Pdf t over file.items) c.deref.ensures.value is))) shows
