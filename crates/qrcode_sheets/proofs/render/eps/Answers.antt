use Rattle.std.proofs.Common.{ap, ap₂, ◌∙◌}
use Rattle.std.proofs.lemmas.Result.{IfOk-weaker}
use Rattle.qrcode_sheets.specs.Eps.{eps_file}
use Rattle.qrcode_render.specs.Setting.{layout_of as at_of}
use Rattle.qrcode_sheets.specs.Drawn.{eps_text}
use Rattle.qrcode_sheets.specs.Sheets.{dark_of, light_of, sheet_of}
use Rattle.qrcode_sheets.proofs.render.eps.Goals as goal

-- The file has what lies over its modules.
pub returns-clause-shows : goal.returns-clause-shows
returns-clause-shows c =
    let t = sheet_of c.args.sheet.now in
    let over = c.deref.result.now in
    IfOk-weaker c.with_extras.result _ _ (λ file is. (
      c.in_ok-over.over.items,
      (
        c.in_ok-over.ensures.value,
        is
            ∙ ap (λ r. eps_file t.dots (at_of r) r.content r.dark r.light over) c.renderer-renderer.ensures.value
            ∙ ap₂ (λ a b. eps_file t.dots t.at t.modules (dark_of t a b) (light_of t a b) over) c.eps_ink.ensures.value c.eps_ink-2.ensures.value
            ∙ ap (eps_text t) c.deref.ensures.value,
      ),
    )) c.with_extras.ensures.value
