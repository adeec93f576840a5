use Rattle.std.proofs.Common.{◌≡◌, ◌-◌, ◌/◌, ◌^◌, ◌∙◌, ap, sym, subst, arith, map, List, ℕ, slice_index_or, unwrap_or}
use Rattle.std.proofs.lemmas.List.{map-set, length-map}
use Rattle.qrcode_types.specs.Bits.{has_bit}
use Rattle.qrcode_penalty.specs.Rows.{is_set, dark_in}
use Rattle.qrcode_penalty.proofs.RowLists.{read}
use Rattle.qrcode_layout.specs.Patterns.{decided_bit}
use Rattle.qrcode_symbol.specs.Deciding.{IsPutInRow, IsPutInColumn, AreDecided}
use Rattle.qrcode_symbol.proofs.Decided.{normal_row, normal_column, both_lines, kept_before, kept_behind, above}
use Rattle.qrcode_symbol.proofs.canvas.masked_rows.decide_normal.Goals as goal

pub returns : goal.returns
unfolding dark_in
returns g c =
    let bits = g.R.PackedRow.bits in
    let layer = c.args.layer in
    let v = layer.version in
    let word = layer.word in
    let rows = c.put_column-4.new.rows in
    let old = map bits c.args.rows.now in
    let lines = map bits rows in
    let third = subst (λ (w : ℕ). IsPutInColumn (map bits c.put_column-2.new.rows) (w - 7) 7 (has_bit (word / 2 ^ 8)) (map bits c.put_column-3.new.rows)) layer.wide c.put_column-3.ensures in
    let dark = subst (λ (w : ℕ). IsPutInColumn (map bits c.put_column-3.new.rows) (w - 8) 1 (has_bit 1) lines) layer.wide c.put_column-4.ensures in
    let last = subst (λ (w : ℕ). IsPutInRow (bits c.put_bits-middle.result) (w - 8) 8 (λ i. has_bit word (8 - 1 - i)) (bits c.put_bits.result)) layer.wide c.put_bits.ensures in
    let row : bits c.index-rows-8.result ≡ slice_index_or lines 8 0 = read bits rows 8 c.index-rows-8.result (omega arith) c.index-rows-8.is in
    record {
      shown = subst (λ (l : List ℕ). AreDecided v word old l) (sym (map-set bits rows 8 c.put_bits.result))
          (both_lines v word old lines (bits c.put_bits.result) (omega (arith, length-map rows bits))
          (normal_column v word c.requires.normal old (map bits c.put_column.new.rows) (map bits c.put_column-2.new.rows) (map bits c.put_column-3.new.rows) lines c.put_column.ensures c.put_column-2.ensures third dark)
          (λ x y h. c.put_column-4.ensures.others x y h ∙ c.put_column-3.ensures.others x y h ∙ c.put_column-2.ensures.others x y h ∙ c.put_column.ensures.others x y h)
          (λ x.
          normal_row v word c.requires.normal (bits c.index-rows-8.result) (bits c.put_bits-left.result) (bits c.put_bits-middle.result) (bits c.put_bits.result) c.put_bits-left.ensures c.put_bits-middle.ensures last x
          ∙ ap (unwrap_or (decided_bit v word x 8))
          (ap (λ n. is_set n x) row ∙ kept_before c.put_column-4.ensures x 8 (above v 8 c.requires.normal layer.wide (omega arith)) ∙ kept_before c.put_column-3.ensures x 8 (above v 7 c.requires.normal layer.wide (omega arith))
          ∙ kept_behind c.put_column-2.ensures x 8 (omega arith) ∙ kept_behind c.put_column.ensures x 8 (omega arith))));
    }
