use Rattle.std.proofs.Common.{◌≡◌, ℕ, ◌+◌, ◌-◌, ◌*◌, ◌/◌, ap, refl, ◌∙◌, arith}
use Rattle.qrcode_penalty.specs.Rows.{dark_in}
use Rattle.qrcode_penalty.specs.Penalty.{line_penalty, block_penalty_at, sum_below}
use Rattle.qrcode_penalty.proofs.Sums.{sum_two}
use Rattle.qrcode_penalty.proofs.rows.row_and_block_penalties.Goals as goal

pub loop-k-init : goal.loop-k-init
unfolding sum_below
loop-k-init g c = record { value = refl; at_most = omega arith }

pub loop-k-preserved : goal.loop-k-preserved
loop-k-preserved g c =
    let dark = dark_in c.args.square.now.rows in
    let n = c.args.square.now.width in
    let f : ℕ → ℕ = λ y. line_penalty n (λ x. dark x y) in
    let h : ℕ → ℕ = λ y. sum_below (n - 1) (block_penalty_at dark y) in
    let k : ℕ = c.loop-k.k in
    let l = c.loop-k.invariant in
    let e : 2 * k + 2 ≡ 2 * (k + 1) = omega arith in
    let lines : sum_below (2 * k) f + c.two_row_penalties-total.result ≡ sum_below (2 * (k + 1)) f = sum_two f (2 * k) (sum_below (2 * k) f) c.two_row_penalties-total.result refl c.two_row_penalties-total.ensures.value ∙ ap (λ m. sum_below m f) e in
    let blocks : sum_below (2 * k) h + c.two_block_penalties-total.result ≡ sum_below (2 * (k + 1)) h = sum_two h (2 * k) (sum_below (2 * k) h) c.two_block_penalties-total.result refl c.two_block_penalties-total.ensures.value ∙ ap (λ m. sum_below m h) e in
    record {
      value = omega (arith, l.value, lines, blocks);
      at_most = omega (arith, l.at_most, c.two_row_penalties-total.ensures.at_most, c.two_block_penalties-total.ensures.at_most);
    }

pub returns-clause-value : goal.returns-clause-value
returns-clause-value g c =
    let dark = dark_in c.args.square.now.rows in
    let n = c.args.square.now.width in
    let f : ℕ → ℕ = λ y. line_penalty n (λ x. dark x y) in
    let h : ℕ → ℕ = λ y. sum_below (n - 1) (block_penalty_at dark y) in
    let done : 2 * c.loop-k.k ≡ 2 * ((c.width.result - 1) / 2) = omega (arith, c.loop-k-test.false, c.loop-k.auto.k-end) in
    omega (arith, c.loop-k.invariant.value, ap (λ m. sum_below m f + sum_below m h) done, c.last_penalties.ensures.value)
