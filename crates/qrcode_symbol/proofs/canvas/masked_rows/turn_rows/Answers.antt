use Rattle.std.proofs.Common.{◌<◌, ◌^◌, ◌∙◌, ℕ, map, ap, subst, bit_xor, arith}
use Rattle.std.proofs.lemmas.List.{length-map}
use Rattle.qrcode_penalty.specs.Rows.{is_set, dark_in}
use Rattle.qrcode_penalty.proofs.RowLists.{rows_fit, rows_more}
use Rattle.qrcode_symbol.specs.Masking.{three_words, IsTurnedRow}
use Rattle.qrcode_symbol.proofs.MaskRows.{has_mod}
use Rattle.qrcode_symbol.proofs.RowLists.{turned_row_is}
use Rattle.qrcode_symbol.proofs.canvas.masked_rows.turn_rows.Goals as goal

pub loop-y-init : goal.loop-y-init
loop-y-init g c = λ y h. absurd (omega (arith, h))

pub loop-y-preserved : goal.loop-y-preserved
loop-y-preserved g c =
    let bits = g.R.PackedRow.bits in
    let m = c.args.modules.now in
    let y = c.loop-y.y in
    rows_more bits (IsTurnedRow m.width c.args.mask m.dark.rows m.free.rows) c.loop-y.rows y c.xor.result (omega arith) c.loop-y.invariant
    (turned_row_is m.width c.args.mask m.dark.rows m.free.rows y (bits c.xor.result) (bits c.row-in-loop-y.result) (bits c.row.result) (bits c.long_row.result)
    c.row-in-loop-y.ensures.value c.row.ensures.value (c.xor.ensures ∙ ap (bit_xor (bits c.row-in-loop-y.result)) c.and-places.ensures)
    (subst (λ (n : ℕ). bits c.row-in-loop-y.result < 2 ^ n) m.dark_width c.row-in-loop-y.ensures.fits) (subst (λ (n : ℕ). bits c.row.result < 2 ^ n) m.free_width c.row.ensures.fits)
    (λ x h.
    ap (λ n. is_set n x) c.long_row.ensures ∙ has_mod (three_words c.turned_row.result) g.R.PackedRow.room x (omega (arith, h, m.room))
    ∙ c.turned_row.ensures x (omega (arith, h, m.at_most))))

pub returns-clause-shown : goal.returns-clause-shown
unfolding dark_in
returns-clause-shown g c = λ x y h l. (c.loop-y.invariant y (omega (arith, l))).shows x h

pub returns-clause-fits : goal.returns-clause-fits
returns-clause-fits g c =
    let bits = g.R.PackedRow.bits in
    rows_fit (map bits c.loop-y.rows) c.args.modules.now.width (length-map c.loop-y.rows bits ∙ omega arith) (λ y h. (c.loop-y.invariant y (omega (arith, h))).ends)
