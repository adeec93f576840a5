use Rattle.std.proofs.Common.{◌++◌, ◌*◌, ap, ◌∙◌, append_assoc, subst}
use Rattle.std.specs.Prelude.{ℕ, codes}
use Rattle.qrcode_render.specs.Grid.{all_columns, all_rows, pixels_of}
use Rattle.qrcode_sheets.specs.Paths.{attribute, frame_of, path_front, xml_head, IsPathIn}
use Rattle.qrcode_render.specs.Setting.{picture_of, side_of}
use Rattle.qrcode_sheets.proofs.svg_path.framed.Goals as goal

pub returns-clause-shows : goal.returns-clause-shows
returns-clause-shows c =
    let frame = frame_of c.args.frame.now in
    let over = c.args.over.now in
    let file = c.extend_from_slice-2.new.self.items in
    let s = c.args.renderer.now in
    let grid = c.grid-grid.result in
    let columns = all_columns grid in
    let rows = all_rows grid in
    let w = columns * grid.across in
    let h = rows * grid.down in
    let dark = c.colors.result.0.0.now in
    let light = c.colors.result.1.0.now in
    let runs = c.in_ok-runs.runs.items in
    let front = xml_head ++ path_front frame w h columns rows (attribute dark) (attribute light) runs in
    let made : IsPathIn columns rows xml_head frame dark light (pixels_of grid) over file = record {
      across = grid.across;
      down = grid.down;
      runs = runs;
      written =
          c.in_ok-extend_from_slice-2.ensures.items
          ∙ ap (λ t. t ++ codes "</svg>")
          (c.in_ok-extend_from_slice.ensures.items
          ∙ ap (λ t. t ++ over)
          (ap (λ v. v.items) c.into_bytes-file.ensures.value
          ∙ c.in_ok-front.ensures.value
          ∙ (λ k. c.in_ok-text.ensures.ok k ++ path_front frame w h columns rows (attribute dark) (attribute light) (c.deref.ensures.value k))))
          ∙ append_assoc front over (codes "</svg>");
      shown = c.in_ok-runs.ensures.value;
    } in
    let inked = subst (λ dark. IsPathIn columns rows xml_head frame dark.0.now light (pixels_of grid) over file) c.colors.ensures.dark made in
    let lit = subst (λ light. IsPathIn columns rows xml_head frame s.dark.0.now light.0.now (pixels_of grid) over file) c.colors.ensures.light inked in
    let shown = subst (λ b. IsPathIn columns rows xml_head frame s.dark.0.now s.light.0.now b over file) c.grid-grid.ensures.pixels lit in
    let across = subst (λ (n : ℕ). IsPathIn n rows xml_head frame s.dark.0.now s.light.0.now (picture_of s) over file) c.grid-grid.ensures.across shown in
    subst (λ (n : ℕ). IsPathIn (side_of s) n xml_head frame s.dark.0.now s.light.0.now (picture_of s) over file) c.grid-grid.ensures.down across
