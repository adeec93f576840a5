use Rattle.std.proofs.Common.{[], ◌∷◌, ◌++◌, ◌∙◌}
use Rattle.qrcode_sheets.specs.Pdf.{ten_digits}
use Rattle.qrcode_sheets.proofs.pdf.push_ten_digits.Goals as goal

pub returns-clause-appends : goal.returns-clause-appends
unfolding ten_digits
returns-clause-appends c =
    c.in_ok-extend_from_slice.ensures.items
    ∙ (λ k. c.args.text.now.items ++ (c.digit_at.ensures k ∷ c.digit_at-2.ensures k ∷ c.digit_at-3.ensures k ∷ c.digit_at-4.ensures k ∷ c.digit_at-5.ensures k ∷ c.digit_at-6.ensures k ∷ c.digit_at-7.ensures k ∷ c.digit_at-8.ensures k ∷ c.digit_at-9.ensures k ∷ c.digit_at-10.ensures k ∷ []))
