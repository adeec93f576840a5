use Rattle.std.proofs.Common.{◌≡◌, List, ℕ, ◌++◌, ◌*◌, ap, ap₂, ◌∙◌, append_assoc}
use Rattle.std.specs.Prelude.{codes, string_bytes}
use Rattle.qrcode_render.specs.Grid.{all_columns, all_rows}
use Rattle.qrcode_sheets.specs.Paths.{frame_of, frame_text, path_ground, path_text, attribute}
use Rattle.qrcode_sheets.proofs.svg_path.front.Goals as goal

-- nine texts in a row
nested : (t a b c d e f g h : List ℕ) → (((((((t ++ a) ++ b) ++ c) ++ d) ++ e) ++ f) ++ g) ++ h ≡ t ++ (a ++ (b ++ (c ++ (d ++ (e ++ (f ++ (g ++ h)))))))
nested t a b c d e f g h = simp append_assoc

pub returns-clause-value : goal.returns-clause-value
returns-clause-value c =
    let grid = c.args.grid.now in
    let head = string_bytes c.args.text in
    let w = all_columns grid * grid.across in
    let h = all_rows grid * grid.down in
    let frame = frame_text (frame_of c.args.frame.now) w h (all_columns grid) (all_rows grid) in
    let light = attribute c.args.colors.1.now in
    let dark = attribute c.args.colors.0.now in
    let runs = path_text c.args.runs.now in
    let ground = codes "\"/><path fill=\"" in
    let path = codes "\" stroke=\"none\" d=\"" in
    let end = codes "\"/>" in
    let sides = c.sides-columns.ensures in
    let framed : string_bytes c.push_ground.new.text ≡ (head ++ frame) ++ path_ground (all_columns grid) (all_rows grid) =
    c.in_ok-push_ground.ensures.appends
    ∙ ap₂ (λ x y. string_bytes c.push_frame.new.text ++ path_ground x y) sides.columns sides.rows
    ∙ ap (λ t. t ++ path_ground (all_columns grid) (all_rows grid)) c.in_ok-push_frame.ensures.appends in
    let lit = c.in_ok-push_attribute.ensures.appends ∙ ap (λ t. t ++ light) framed in
    let grounded = c.in_ok-push_str.ensures.bytes ∙ ap (λ t. t ++ ground) lit in
    let inked = c.in_ok-push_attribute-2.ensures.appends ∙ ap (λ t. t ++ dark) grounded in
    let begun = c.in_ok-push_str-2.ensures.bytes ∙ ap (λ t. t ++ path) inked in
    let drawn = c.in_ok-push_runs.ensures.appends ∙ ap (λ t. t ++ runs) begun in
    c.in_ok-push_str-3.ensures.bytes ∙ ap (λ t. t ++ end) drawn ∙ nested head frame (path_ground (all_columns grid) (all_rows grid)) light ground dark path runs end
