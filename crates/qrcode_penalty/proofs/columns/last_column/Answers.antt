use Rattle.std.proofs.Common.{ℕ, ◌+◌, ◌/◌, ◌^◌, ◌∙◌, ap, bit_and, bit_or, sym, subst, arith, ◌≡◌, ◌-◌}
use Rattle.qrcode_penalty.proofs.ColumnWords.{row}
use Rattle.qrcode_penalty.specs.Rows.{dark_in}
use Rattle.qrcode_penalty.proofs.LastColumn.{IsColumnUpTo, last, column_none, column_more}
use Rattle.qrcode_penalty.proofs.columns.last_column.Goals as goal

pub loop-y-init : goal.loop-y-init
loop-y-init g c = rw c.first-column.ensures (column_none c.args.square.now.rows c.args.square.now.width)

pub loop-y-preserved : goal.loop-y-preserved
loop-y-preserved g c =
    let bits = g.R.PackedRow.bits in
    let square = c.args.square.now in
    let one : bits c.without-last.result ≡ last square.width = simp (c.without-last.ensures, c.first.ensures, c.first-2.ensures, c.width-width.ensures.value) in
    let word : bits c.or-column.result ≡ bit_or (bits c.loop-y.column / 2 ^ 1) (bit_and (row square.rows c.loop-y.y) (last square.width)) =
    simp (c.or-column.ensures, c.down.ensures, c.and.ensures, c.row.ensures.value, one) in
    subst (λ (n : ℕ). IsColumnUpTo square.rows square.width n (c.loop-y.y + 1)) (sym word)
    (column_more square.rows square.width (bits c.loop-y.column) c.loop-y.y (omega arith) c.loop-y.invariant)

pub returns : goal.returns
returns g c = λ y h.
    let square = c.args.square.now in
    let e : y + c.loop-y.y - square.width ≡ y = omega arith in
    c.loop-y.invariant.inside y h (omega arith) ∙ ap (dark_in square.rows (square.width - 1)) e
