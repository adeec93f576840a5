use Rattle.std.proofs.Common.{◌++◌, ap, ap₂, ◌∙◌, subst}
use Rattle.qrcode_render.specs.Grid.{Grid, all_columns, all_rows, pixels_of}
use Rattle.qrcode_sheets.specs.Paths.{AreRunsOf}
use Rattle.qrcode_sheets.specs.Pdf.{filled_path, paint}
use Rattle.qrcode_sheets.proofs.pdf.layer.Goals as goal

pub returns-clause-value : goal.returns-clause-value
returns-clause-value c =
    let grid : Grid = record { cells = c.args.modules.now; columns = c.args.count; rows = c.args.count; zone = c.args.zone; across = 1; down = 1 } in
    let runs = c.in_ok-runs.runs.items in
    record {
      columns = all_columns grid;
      rows = all_rows grid;
      runs = runs;
      written =
          c.in_ok-extend_from_slice.ensures.items
          ∙ ap₂ (λ t f. t ++ f) (c.in_ok-push_paint.ensures.appends ∙ ap (λ t. t ++ paint c.args.color.0) c.new-text.ensures.items) (c.as_bytes.ensures.value ∙ c.in_ok-filled.ensures.value ∙ ap filled_path c.deref.ensures.value);
      shown = subst (λ (g : Grid). AreRunsOf (all_columns g) (all_rows g) g.across g.down (pixels_of g) runs) c.new-grid.ensures c.in_ok-runs.ensures.value;
    }
