use Rattle.std.proofs.Common.{◌++◌, ap, ap₂, ◌∙◌}
use Rattle.qrcode_sheets.proofs.pdf.ending.Goals as goal

pub returns-clause-value : goal.returns-clause-value
returns-clause-value c =
    c.in_ok-extend_from_slice-2.ensures.items
    ∙ ap₂ (λ a b. a ++ b)
    (c.in_ok-extend_from_slice.ensures.items ∙ ap (λ t. t ++ c.args.table.now) c.in_ok-text.ensures.items)
    (c.as_bytes.ensures.value ∙ c.in_ok-end.ensures.ok)
