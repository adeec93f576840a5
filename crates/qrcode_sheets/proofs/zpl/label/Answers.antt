use Rattle.std.proofs.Common.{◌≡◌, ℕ, ◌*◌, List, ◌++◌, ap, ap₂, ◌∙◌, sym, append_assoc}
use Rattle.qrcode_sheets.specs.Files.{inked, black_bytes}
use Rattle.qrcode_render.specs.Grid.{all_columns, all_rows}
use Rattle.qrcode_sheets.specs.Zpl.{byte_digits, reading, zpl_head, zpl_tail}
use Rattle.qrcode_render.proofs.Grids.{rows_by_cells}
use Rattle.qrcode_sheets.proofs.zpl.label.Goals as goal

pub returns-clause-shows : goal.returns-clause-shows
returns-clause-shows c =
    let grid = c.args.grid.now in
    let sides = c.pixels-width.ensures in
    let field : List ℕ = c.push_rows.new.field.items in
    let head : c.in_ok-file.file.items ≡ zpl_head c.args.place (all_columns grid * grid.across) (all_rows grid * grid.down) = c.in_ok-file.ensures.value ∙ ap₂ (zpl_head c.args.place) sides.across sides.down in
    record {
      field = field;
      written =
          c.in_ok-extend_from_slice-2.ensures.items
          ∙ ap (λ t. t ++ zpl_tail) (c.in_ok-extend_from_slice.ensures.items ∙ ap₂ (λ xs ys. xs ++ ys) head c.deref.ensures.value)
          ∙ append_assoc (zpl_head c.args.place (all_columns grid * grid.across) (all_rows grid * grid.down)) field zpl_tail;
      shown =
          c.in_ok-push_rows.ensures.reads
          ∙ ap (reading 0) (sym (rows_by_cells (λ marks. byte_digits (black_bytes (inked c.args.marked c.args.other marks))) grid sides.at_least.0 sides.at_least.1));
    }
