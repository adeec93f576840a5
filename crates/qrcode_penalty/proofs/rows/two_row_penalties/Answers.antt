use Rattle.std.proofs.Common.{◌≡◌, ℕ, ◌+◌, ◌^◌, ap, ap₂, ◌∙◌, arith, slice_index_or}
use Rattle.qrcode_penalty.specs.Rows.{is_set, dark_in}
use Rattle.qrcode_penalty.specs.Penalty.{run_penalty, finder_penalty}
use Rattle.qrcode_penalty.proofs.rows.two_row_penalties.Goals as goal

pub finder_penalties-requires-clause-upper_fits : goal.finder_penalties-requires-clause-upper_fits
finder_penalties-requires-clause-upper_fits g c = omega (arith, c.beside-rows.ensures.upper, c.row.ensures.fits, ap (λ m. 2 ^ m) c.width-width.ensures.value)

pub finder_penalties-requires-clause-lower_fits : goal.finder_penalties-requires-clause-lower_fits
finder_penalties-requires-clause-lower_fits g c = omega (arith, c.beside-rows.ensures.lower, c.row-2.ensures.fits, ap (λ m. 2 ^ m) c.width-width.ensures.value)

pub returns-clause-value : goal.returns-clause-value
unfolding dark_in
returns-clause-value g c =
    let rows = c.args.square.now.rows in
    let w = c.width-width.result in
    let a = g.R.Pair.RowPair.upper c.beside-rows.result in
    let b = g.R.Pair.RowPair.lower c.beside-rows.result in
    let lines : ℕ → ℕ → ℕ → ℕ = λ n p q. (run_penalty n (is_set p) + finder_penalty n (is_set p)) + (run_penalty n (is_set q) + finder_penalty n (is_set q)) in
    let sum : c.run_penalties.result + c.finder_penalties.result ≡ (run_penalty w (is_set a) + finder_penalty w (is_set a)) + (run_penalty w (is_set b) + finder_penalty w (is_set b)) =
    omega (arith, c.run_penalties.ensures.value, c.finder_penalties.ensures.value) in
    sum ∙ ap₂ (lines w) (c.beside-rows.ensures.upper ∙ c.row.ensures.value) (c.beside-rows.ensures.lower ∙ c.row-2.ensures.value)
    ∙ ap (λ n. lines n (slice_index_or rows c.args.upper 0) (slice_index_or rows c.args.lower 0)) c.width-width.ensures.value
