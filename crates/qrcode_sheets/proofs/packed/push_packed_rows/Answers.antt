use Rattle.std.proofs.Common.{◌≡◌, ℕ, ◌+◌, ◌*◌, ◌++◌, List, length, ap, ap₂, ◌∙◌, sym, refl, arith, append_assoc}
use Rattle.std.specs.List.{flat_map, range_with_len}
use Rattle.std.proofs.lemmas.List.FromFn.{length-map-range_with_len}
use Rattle.qrcode_sheets.specs.Files.{inked, black_bytes}
use Rattle.qrcode_render.specs.Grid.{all_columns, cell_row, each, is_dark_cell, repeated}
use Rattle.qrcode_render.proofs.LineTexts.{flat_range_more}
use Rattle.qrcode_sheets.proofs.packed.push_packed_rows.Goals as goal

pub packed_row-requires-clause-fits : goal.packed_row-requires-clause-fits
packed_row-requires-clause-fits g c =
    let cells = c.args.grid.now in
    let columns : length c.mark_row.new.marks ≡ all_columns cells = ap length c.mark_row.ensures ∙ length-map-range_with_len (λ column. is_dark_cell cells column c.loop-row.row) 0 (all_columns cells) in
    omega (arith, ap (λ n. n * c.cell-across.result.0) columns, c.cell-across.ensures.fits)

pub loop-row-preserved : goal.loop-row-preserved
loop-row-preserved g c =
    let cells = c.args.grid.now in
    let row = c.loop-row.row in
    let text : ℕ → List _ → List ℕ = λ a marks. g.F.Packing.row_of (black_bytes (inked c.args.marked c.args.other (each a marks))) in
    let rows : ℕ → List ℕ = λ r. repeated cells.down (text cells.across (cell_row cells r)) in
    let before = flat_map rows (range_with_len 0 row) in
    let written : c.deref.result.now ≡ text cells.across (cell_row cells row) = c.deref.ensures.value ∙ c.in_ok-text.ensures.value ∙ ap g.F.Packing.row_of c.in_ok-bytes.ensures.value ∙ ap₂ text c.cell-across.ensures.across c.mark_row.ensures in (
      c.in_ok-push_times.ensures.appends
          ∙ ap₂ (λ xs ys. xs ++ ys) c.loop-row.invariant.0 (ap₂ (λ n t. repeated n t) c.cell-across.ensures.down written)
          ∙ append_assoc c.args.file.now.items before (rows row)
          ∙ ap (λ xs. c.args.file.now.items ++ xs) (sym (flat_range_more rows row (row + 1) refl)),
      ap length c.mark_row.ensures
          ∙ length-map-range_with_len (λ column. is_dark_cell cells column row) 0 (all_columns cells)
          ∙ sym c.requires.length,
    )
