use Rattle.std.proofs.Common.{◌≡◌, ap, ◌∙◌, not, bit_or}
use Rattle.qrcode_penalty.specs.Rows.{FitsWidth, is_set}
use Rattle.qrcode_penalty.proofs.ColumnWords.{change, inner, or_fits, upper_at}
use Rattle.qrcode_penalty.proofs.columns.mixed_from.Goals as goal

pub returns-clause-shown : goal.returns-clause-shown
returns-clause-shown g c = λ x.
    let bits = g.R.PackedRow.bits in
    let rows = c.args.square.now.rows in
    let y = c.args.y in
    let word : bits c.or-2.result ≡ bit_or (inner rows y) (change rows y) =
    simp (c.or-2.ensures, c.or-inner.ensures, c.or.ensures, c.changes.ensures.value, c.changes-2.ensures.value, c.changes-3.ensures.value, c.changes-4.ensures.value) in
    ap (λ m. not (is_set m x)) word ∙ upper_at rows y x

pub returns-clause-fits : goal.returns-clause-fits
returns-clause-fits g c =
    let bits = g.R.PackedRow.bits in
    let n = c.args.square.now.width in
    let two : FitsWidth n (bits c.or.result) = or_fits n (bits c.changes.result) (bits c.changes-2.result) (bits c.or.result) c.or.ensures c.changes.ensures.fits c.changes-2.ensures.fits in
    let three : FitsWidth n (bits c.or-inner.result) = or_fits n (bits c.or.result) (bits c.changes-3.result) (bits c.or-inner.result) c.or-inner.ensures two c.changes-3.ensures.fits in
    or_fits n (bits c.or-inner.result) (bits c.changes-4.result) (bits c.or-2.result) c.or-2.ensures three c.changes-4.ensures.fits
