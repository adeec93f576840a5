use Rattle.std.proofs.Common.{ℕ, ap, ◌∙◌, refl}
use Rattle.qrcode_penalty.specs.Rows.{is_set, dark_in}
use Rattle.qrcode_penalty.proofs.Places.{has_above}
use Rattle.qrcode_penalty.specs.Penalty.{dark_count_in}
use Rattle.qrcode_penalty.proofs.Sums.{count_places}
use Rattle.qrcode_penalty.proofs.rows.row_dark_count.Goals as goal

pub returns-clause-value : goal.returns-clause-value
unfolding dark_in dark_count_in
returns-clause-value g c =
    let n = c.args.square.now.width in
    let row = g.R.PackedRow.bits c.row.result in
    c.count_ones.ensures.value ∙ count_places row (is_set row) n (λ k h. refl) (λ k h. has_above row n k c.row.ensures.fits h)
    ∙ ap (λ (r : ℕ). dark_count_in n (is_set r)) c.row.ensures.value
