use Rattle.std.proofs.Common.{◌≡◌, ℕ, ◌+◌, ◌-◌, ◌*◌, ap, ◌∙◌}
use Rattle.qrcode_penalty.specs.Rows.{is_set, dark_in}
use Rattle.qrcode_penalty.specs.Penalty.{light_count, micro_penalty}
use Rattle.qrcode_penalty.proofs.ColumnWords.{row}
use Rattle.qrcode_penalty.proofs.Squares.{micro_cost, light_same, same_square}
use Rattle.qrcode_penalty.proofs.penalty.micro_penalty.Goals as goal

pub returns-clause-value : goal.returns-clause-value
unfolding dark_in
returns-clause-value g c =
    let square = c.args.square.now in
    let n = square.width in
    let dark = dark_in square.rows in
    let bottom = g.R.PackedRow.bits c.row.result in
    let right = g.R.PackedRow.bits c.last_column.result in
    let width : c.width-width.result ≡ n = c.width-width.ensures.value in
    ap (λ m. c.light_count-row.result + c.light_count-column.result + 15 * m) c.max.ensures
    ∙ micro_cost dark n c.light_count-row.result c.light_count-column.result
    (c.light_count-row.ensures.value ∙ ap (λ (w : ℕ). light_count w (is_set bottom)) width
    ∙ light_same n (is_set bottom) (λ x. dark x (n - 1)) (λ x h. ap (λ r. is_set r x) c.row.ensures.value ∙ ap (λ (w : ℕ). is_set (row square.rows (w - 1)) x) width))
    (c.light_count-column.ensures.value ∙ ap (λ (w : ℕ). light_count w (is_set right)) width ∙ light_same n (is_set right) (dark (n - 1)) c.last_column.ensures)

pub returns-clause-shown : goal.returns-clause-shown
returns-clause-shown g c = λ dark shows.
    let square = c.args.square.now in
    returns-clause-value g c ∙ ap (micro_penalty square.width) (same_square square.width square.rows dark c.width-width.ensures.square.length c.width-width.ensures.square.fits shows)
