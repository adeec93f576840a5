use Rattle.std.proofs.Common.{rules, subst}
use Rattle.std.proofs.lemmas.Result.{IfOk-weaker}
use Rattle.std.specs.Prelude.{IfOk}
use Rattle.qrcode_sheets.specs.declared.formats.Format.TheVariants.{SvgPath}
use Rattle.qrcode_sheets.specs.Drawn.{IsShapes}
use Rattle.qrcode_sheets.specs.Sheets.{sheet_of}
use Rattle.qrcode_sheets.proofs.render.path.Goals as goal

-- The file has what lies over its modules.
pub returns-clause-shows : goal.returns-clause-shows
returns-clause-shows c =
    let t = sheet_of c.args.sheet.now in
    let shows : IfOk c.framed.result (λ file. IsShapes SvgPath t c.deref.result.now file.items) = search rules in
    IfOk-weaker c.framed.result _ _ (λ file is. (c.in_ok-over.over.items, (c.in_ok-over.ensures.value, subst (λ over. IsShapes SvgPath t over file.items) c.deref.ensures.value is))) shows
