use Rattle.std.proofs.Common.{◌+◌, ◌∙◌, ap, sym, subst, arith, map, List, ℕ}
use Rattle.std.proofs.lemmas.List.{map-set, length-map}
use Rattle.qrcode_types.specs.Bits.{has_bit}
use Rattle.qrcode_penalty.specs.Rows.{is_set}
use Rattle.qrcode_penalty.proofs.RowLists.{read}
use Rattle.qrcode_symbol.specs.Deciding.{IsPutInColumn}
use Rattle.qrcode_symbol.proofs.Decided.{column_more}
use Rattle.qrcode_symbol.proofs.canvas.masked_rows.put_column.Goals as goal

pub loop-i-preserved : goal.loop-i-preserved
loop-i-preserved g c =
    let bits = g.R.PackedRow.bits in
    let rows = c.loop-i.rows in
    let i = c.loop-i.i in
    let y = c.args.first + i in
    let old = map bits c.args.rows.now in
    subst (λ (l : List ℕ). IsPutInColumn old c.args.first (i + 1) (has_bit c.args.bits) l) (sym (map-set bits rows y c.put.result))
    (column_more old c.args.first i (has_bit c.args.bits) (map bits rows) (bits c.put.result) (omega (arith, length-map rows bits)) c.put.ensures.place
    (λ k h. c.put.ensures.others k h ∙ ap (λ n. is_set n k) (read bits rows y c.index-rows-first.result (omega arith) c.index-rows-first.is)) c.loop-i.invariant)
