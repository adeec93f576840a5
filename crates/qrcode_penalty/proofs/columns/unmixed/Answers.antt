use Rattle.std.proofs.Common.{◌≡◌, ◌+◌, ◌∙◌, arith, refl, not}
use Rattle.qrcode_penalty.specs.Rows.{is_set}
use Rattle.qrcode_penalty.proofs.Places.{has_above}
use Rattle.qrcode_penalty.specs.Penalty.{count_if, sum_below}
use Rattle.qrcode_penalty.proofs.Sums.{count_places, sum_others}
use Rattle.qrcode_penalty.proofs.columns.unmixed.Given.{Over}
use Rattle.qrcode_penalty.proofs.columns.unmixed.Goals as goal

-- the mixed columns and the unmixed ones are all columns
counted : (g : Over) (c : goal.After-count_ones g) → sum_below c.args.width (λ x. count_if (not (is_set (g.R.PackedRow.bits c.args.mixed) x)) 1) + c.count_ones.result ≡ c.args.width
counted g c =
    let n = c.args.width in
    let a = g.R.PackedRow.bits c.args.mixed in
    let ones = c.count_ones.ensures.value ∙ count_places a (is_set a) n (λ k h. refl) (λ k h. has_above a n k c.requires.fits h) in
    omega (arith, ones, sum_others (is_set a) n)

pub overflow_sub-result : goal.overflow_sub-result
overflow_sub-result g c = omega (arith, counted g c)

pub returns-clause-value : goal.returns-clause-value
returns-clause-value g c = omega (arith, counted g c)
