use Rattle.std.proofs.Common.{◌≡◌, ◌<◌, ◌^◌, length, ap, ap₂, ◌∙◌, subst}
use Rattle.qrcode_sheets.specs.Pdf.{body, catalog, closed, pages, with_object}
use Rattle.qrcode_sheets.proofs.pdf.document.Goals as goal

-- the objects in a row
objects : (c : goal.After-drop-page-2) → c.push-5.new.self ≡ body c.args.sheet.now c.args.drawn.now c.args.title.now
objects c =
    c.in_ok-push-5.ensures.appends
    ∙ ap₂ with_object (c.deref-3.ensures.value ∙ c.in_ok-information.ensures.value)
    (c.in_ok-push-4.ensures.appends
    ∙ ap₂ with_object (c.deref-2.ensures.value ∙ c.in_ok-stream.ensures.value)
    (c.in_ok-push-3.ensures.appends
    ∙ ap₂ with_object (c.deref.ensures.value ∙ c.in_ok-page.ensures.value)
    (c.in_ok-push-2.ensures.appends
    ∙ ap (with_object pages)
    (c.in_ok-push.ensures.appends
    ∙ ap (with_object catalog) (λ k. record { text = c.in_ok-from_slice.ensures.items k; table = c.in_ok-from_slice-2.ensures.items k })))))

pub returns-clause-value : goal.returns-clause-value
returns-clause-value c = c.in_ok-file.ensures.value ∙ ap closed (objects c)

pub returns-clause-at_most : goal.returns-clause-at_most
returns-clause-at_most c = subst (λ b. length b.text < 10 ^ 10) (objects c) c.in_ok-file.ensures.at_most
