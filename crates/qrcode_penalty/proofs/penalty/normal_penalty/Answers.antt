use Rattle.std.proofs.Common.{ℕ, ◌/◌, ◌*◌, ap, refl, ◌∙◌, arith}
use Rattle.std.specs.Int.{abs_diff}
use Rattle.qrcode_penalty.specs.Rows.{dark_in}
use Rattle.qrcode_penalty.specs.Penalty.{normal_penalty, line_penalty, block_penalty, sum_below}
use Rattle.qrcode_penalty.proofs.Squares.{square_cost, same_square, balance_of}
use Rattle.qrcode_penalty.proofs.penalty.normal_penalty.Goals as goal

pub returns-clause-value : goal.returns-clause-value
returns-clause-value g c =
    let n = c.args.square.now.width in
    let rows = c.args.square.now.rows in
    let lines = sum_below n (λ y. line_penalty n (λ x. dark_in rows x y)) in
    let blocks = block_penalty n (dark_in rows) in
    omega (
      arith,
      c.row_and_block_penalties.ensures.value,
      square_cost rows n lines c.column_run_penalties.result c.column_finder_penalties.result blocks c.abs_diff-balance.result
          refl c.column_run_penalties.ensures.value c.column_finder_penalties.ensures.value refl
          (balance_of (dark_in rows) n c.abs_diff-balance.result c.dark_count.result
          (c.abs_diff-balance.ensures ∙ ap (λ (w : ℕ). abs_diff (200 * c.dark_count.result / (w * w)) 100) c.width-width.ensures.value) c.dark_count.ensures.value),
    )

pub returns-clause-shown : goal.returns-clause-shown
returns-clause-shown g c = λ dark shows.
    let square = c.args.square.now in
    returns-clause-value g c ∙ ap (normal_penalty square.width) (same_square square.width square.rows dark c.width-width.ensures.square.length c.width-width.ensures.square.fits shows)
