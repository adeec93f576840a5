use Rattle.std.proofs.Common.{◌≡◌, ℕ, ◌+◌, ◌-◌, ◌/◌, ap, refl, ◌∙◌, arith}
use Rattle.qrcode_penalty.specs.Rows.{dark_in}
use Rattle.qrcode_penalty.specs.Penalty.{line_penalty, block_penalty, block_penalty_at, sum_below}
use Rattle.qrcode_penalty.proofs.Sums.{sum_two, sum_step}
use Rattle.qrcode_penalty.proofs.rows.last_penalties.Goals as goal

pub returns-then-y-width-clause-value : goal.returns-then-y-width-clause-value
unfolding block_penalty
returns-then-y-width-clause-value g c =
    let square = c.args.square.now in
    let dark = dark_in square.rows in
    let n = square.width in
    let y = c.args.y in
    let f : ℕ → ℕ = λ k. line_penalty n (λ x. dark x k) in
    let h : ℕ → ℕ = λ k. sum_below (n - 1) (block_penalty_at dark k) in
    let whole : y + 1 ≡ n = omega (arith, c.if-y-width.true, c.width-width.ensures.value) in
    let half : c.two_row_penalties.result / 2 ≡ f y = omega (arith, c.two_row_penalties.ensures.value) in
    let lines : sum_below y f + c.two_row_penalties.result / 2 ≡ sum_below n f = sum_step f y (sum_below y f) (c.two_row_penalties.result / 2) refl half ∙ ap (λ m. sum_below m f) whole in
    let blocks : sum_below y h ≡ sum_below (n - 1) h = ap (λ m. sum_below m h) (omega (arith, whole)) in
    omega (arith, lines, blocks)

pub returns-clause-value : goal.returns-clause-value
unfolding block_penalty
returns-clause-value g c =
    let square = c.args.square.now in
    let dark = dark_in square.rows in
    let n = square.width in
    let y = c.args.y in
    let f : ℕ → ℕ = λ k. line_penalty n (λ x. dark x k) in
    let h : ℕ → ℕ = λ k. sum_below (n - 1) (block_penalty_at dark k) in
    let whole : y + 2 ≡ n = omega (arith, c.if-y-width.false, c.width-width.ensures.value, c.requires.at_least, c.requires.near) in
    let half : c.two_block_penalties.result / 2 ≡ h y = omega (arith, c.two_block_penalties.ensures.value) in
    let lines : sum_below y f + c.two_row_penalties-2.result ≡ sum_below n f = sum_two f y (sum_below y f) c.two_row_penalties-2.result refl c.two_row_penalties-2.ensures.value ∙ ap (λ m. sum_below m f) whole in
    let blocks : sum_below y h + c.two_block_penalties.result / 2 ≡ sum_below (n - 1) h = sum_step h y (sum_below y h) (c.two_block_penalties.result / 2) refl half ∙ ap (λ m. sum_below m h) (omega (arith, whole)) in
    omega (arith, lines, blocks)
