use Rattle.std.proofs.Common.{◌/◌, [], ◌∷◌, ◌++◌, ap, ◌∙◌, append_assoc}
use Rattle.std.specs.Prelude.{decimal}
use Rattle.qrcode_sheets.specs.Pdf.{millionths, digit_at}
use Rattle.qrcode_sheets.proofs.pdf.push_millionths.Goals as goal

pub returns-clause-appends : goal.returns-clause-appends
unfolding millionths
returns-clause-appends c =
    let old = c.args.text.now.items in
    let n = c.args.n in
    let whole = c.in_ok-extend_from_slice.ensures.items ∙ ap (λ t. old ++ t) (c.as_bytes.ensures.value ∙ c.in_ok-whole.ensures.ok) in
    c.in_ok-extend_from_slice-2.ensures.items
    ∙ (λ k. whole k ++ (46 ∷ c.digit_at.ensures k ∷ c.digit_at-2.ensures k ∷ c.digit_at-3.ensures k ∷ c.digit_at-4.ensures k ∷ c.digit_at-5.ensures k ∷ c.digit_at-6.ensures k ∷ []))
    ∙ append_assoc old (decimal (n / 1000000)) (46 ∷ digit_at n 100000 ∷ digit_at n 10000 ∷ digit_at n 1000 ∷ digit_at n 100 ∷ digit_at n 10 ∷ digit_at n 1 ∷ [])
