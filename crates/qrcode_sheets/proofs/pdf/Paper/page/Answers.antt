use Rattle.std.proofs.Common.{◌++◌, ap, ◌∙◌, append_assoc}
use Rattle.std.specs.Prelude.{codes}
use Rattle.qrcode_sheets.specs.Pdf.{sides}
use Rattle.qrcode_sheets.proofs.pdf.Paper.page.Goals as goal

pub returns-clause-value : goal.returns-clause-value
returns-clause-value c =
    c.in_ok-extend_from_slice.ensures.items
    ∙ ap (λ t. t ++ codes "]>>\nendobj\n") (c.in_ok-push_sides.ensures.appends ∙ ap (λ t. t ++ sides c.args.self.now) c.in_ok-text.ensures.items)
    ∙ append_assoc (codes "3 0 obj\n<</Type/Page/Parent 2 0 R/Resources<<>>/Contents 4 0 R/MediaBox[0 0 ") (sides c.args.self.now) (codes "]>>\nendobj\n")
