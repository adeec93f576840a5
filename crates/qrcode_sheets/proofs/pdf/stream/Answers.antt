use Rattle.std.proofs.Common.{◌++◌, ap, ◌∙◌, append_assoc}
use Rattle.std.specs.Prelude.{codes}
use Rattle.qrcode_sheets.proofs.pdf.stream.Goals as goal

pub returns-clause-value : goal.returns-clause-value
returns-clause-value c =
    c.in_ok-extend_from_slice-2.ensures.items
    ∙ ap (λ t. t ++ codes "\nendstream\nendobj\n")
    (c.in_ok-extend_from_slice.ensures.items ∙ ap (λ t. t ++ c.args.drawn.now) (ap (λ v. v.items) c.into_bytes-text.ensures.value ∙ c.in_ok-head.ensures.ok))
    ∙ simp append_assoc
