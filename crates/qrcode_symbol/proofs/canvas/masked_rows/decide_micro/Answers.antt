use Rattle.std.proofs.Common.{◌≡◌, ◌∙◌, ap, sym, subst, arith, map, List, ℕ, slice_index_or, unwrap_or}
use Rattle.std.proofs.lemmas.List.{map-set, length-map}
use Rattle.qrcode_penalty.specs.Rows.{is_set, dark_in}
use Rattle.qrcode_penalty.proofs.RowLists.{read}
use Rattle.qrcode_layout.specs.Patterns.{decided_bit}
use Rattle.qrcode_symbol.specs.Deciding.{AreDecided}
use Rattle.qrcode_symbol.proofs.Decided.{micro_row, micro_column, both_lines, kept_behind}
use Rattle.qrcode_symbol.proofs.canvas.masked_rows.decide_micro.Goals as goal

pub returns : goal.returns
unfolding dark_in
returns g c =
    let bits = g.R.PackedRow.bits in
    let v = c.args.layer.version in
    let word = c.args.layer.word in
    let rows = c.put_column.new.rows in
    let old = map bits c.args.rows.now in
    let lines = map bits rows in
    let row : bits c.index-rows-8.result ≡ slice_index_or lines 8 0 = read bits rows 8 c.index-rows-8.result (omega arith) c.index-rows-8.is in
    record {
      shown = subst (λ (l : List ℕ). AreDecided v word old l) (sym (map-set bits rows 8 c.put_bits.result))
          (both_lines v word old lines (bits c.put_bits.result) (omega (arith, length-map rows bits))
          (micro_column v word c.requires.micro old lines c.put_column.ensures)
          c.put_column.ensures.others
          (λ x.
          micro_row v word c.requires.micro (bits c.index-rows-8.result) (bits c.put_bits.result) c.put_bits.ensures x
          ∙ ap (unwrap_or (decided_bit v word x 8)) (ap (λ n. is_set n x) row ∙ kept_behind c.put_column.ensures x 8 (omega arith))));
    }
