use Rattle.std.proofs.Common.{◌++◌, ◌*◌, ap, ◌∙◌}
use Rattle.std.specs.Prelude.{codes, string_bytes}
use Rattle.qrcode_render.specs.Grid.{all_columns, all_rows}
use Rattle.qrcode_sheets.specs.Paths.{attribute, path_front}
use Rattle.qrcode_sheets.proofs.svg_path.with_element.Goals as goal

pub returns-clause-value : goal.returns-clause-value
returns-clause-value c =
    let grid = c.args.grid.now in
    let w = all_columns grid * grid.across in
    let h = all_rows grid * grid.down in
    let runs = c.in_ok-runs.runs.items in
    let head = string_bytes c.args.text in
    let light = attribute c.args.light.now in
    let dark = attribute c.args.dark.now in (
      all_columns grid,
      (
        all_rows grid,
        record {
          across = grid.across;
          down = grid.down;
          runs = runs;
          written =
              c.in_ok-push_str.ensures.bytes
              ∙ ap (λ t. t ++ codes "</svg>")
              (c.in_ok-whole.ensures.value
              ∙ (λ k. head ++ path_front (c.plain.ensures k) w h (all_columns grid) (all_rows grid) dark light (c.deref.ensures.value k)));
          shown = c.in_ok-runs.ensures.value;
        },
      ),
    )
