use Rattle.std.proofs.Common.{◌≡◌, ◌*◌, count_ones, ap, sym, ◌∙◌}
use Rattle.std.proofs.lemmas.Bool.{eqb-true}
use Rattle.qrcode_penalty.proofs.Lines.{none_left}
use Rattle.qrcode_penalty.proofs.ColumnWords.{column_forms, columns_alike, columns_crowded, column_finders_of}
use Rattle.qrcode_penalty.proofs.columns.column_finders.Goals as goal

pub returns-then-is_zero-clause-value : goal.returns-then-is_zero-clause-value
returns-then-is_zero-clause-value g c =
    let rows = c.args.square.now.rows in
    let y = c.args.y in
    let square = c.width-width.ensures.square in
    let word : g.R.PackedRow.bits c.without-forms.result ≡ columns_alike rows y =
    simp (c.without-forms.ensures, c.or-light.ensures, c.and-dark.ensures, c.and-ends.ensures, c.and.ensures, c.and-upper.ensures, c.row.ensures.value, c.row-2.ensures.value, c.row-3.ensures.value, c.row-4.ensures.value, c.row-5.ensures.value, c.row-6.ensures.value, c.row-7.ensures.value) in
    let none : count_ones (column_forms rows y) ≡ 0 = none_left (columns_alike rows y) (columns_crowded rows y) (sym word ∙ eqb-true (g.R.PackedRow.bits c.without-forms.result) 0 (sym c.is_zero.ensures ∙ c.if-is_zero.true)) in
    sym (ap (λ x. 40 * x) none) ∙ column_finders_of rows y c.args.square.now.width square.length (square.fits y)

pub returns-clause-value : goal.returns-clause-value
returns-clause-value g c =
    let rows = c.args.square.now.rows in
    let y = c.args.y in
    let square = c.width-width.ensures.square in
    let word : g.R.PackedRow.bits c.without.result ≡ column_forms rows y =
    simp (c.without.ensures, c.without-forms.ensures, c.or-light.ensures, c.and-dark.ensures, c.and-ends.ensures, c.and.ensures, c.and-upper.ensures, c.and-crowded.ensures, c.four_rows.ensures, c.four_rows-2.ensures, c.row.ensures.value, c.row-2.ensures.value, c.row-3.ensures.value, c.row-4.ensures.value, c.row-5.ensures.value, c.row-6.ensures.value, c.row-7.ensures.value) in
    ap (λ x. 40 * x) (c.count_ones.ensures.value ∙ ap count_ones word) ∙ column_finders_of rows y c.args.square.now.width square.length (square.fits y)
