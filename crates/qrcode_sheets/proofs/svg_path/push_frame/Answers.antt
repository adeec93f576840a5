use Rattle.std.proofs.Common.{◌≡◌, ℕ, List, ◌++◌, ◌*◌, ap, ap₂, ◌∙◌, append_assoc}
use Rattle.std.specs.Prelude.{codes, string_bytes}
use Rattle.qrcode_render.specs.Grid.{all_columns, all_rows}
use Rattle.qrcode_sheets.specs.Paths.{between, box_text, size_text}
use Rattle.qrcode_sheets.proofs.svg_path.push_frame.Goals as goal

-- seven texts in a row
nested : (t a b c d e f g : List ℕ) → ((((((t ++ a) ++ b) ++ c) ++ d) ++ e) ++ f) ++ g ≡ t ++ (a ++ (b ++ (c ++ (d ++ (e ++ (f ++ g))))))
nested t a b c d e f g = simp append_assoc

pub returns-clause-appends : goal.returns-clause-appends
returns-clause-appends c =
    let frame = c.args.frame.now in
    let head = codes "<svg xmlns=\"http://www.w3.org/2000/svg\" version=\"1.1\"" in
    let id = between (codes " id=\"") frame.id.now (codes "\"") in
    let class = between (codes " class=\"") frame.class.now (codes "\"") in
    let size : ℕ → ℕ → List ℕ = size_text frame.size in
    let title = between (codes "<title>") frame.title.now (codes "</title>") in
    let description = between (codes "<desc>") frame.description.now (codes "</desc>") in
    let pixels = c.pixels-width.ensures in
    let sides = c.sides-columns.ensures in
    let grid = c.args.grid.now in
    let w = all_columns grid * grid.across in
    let h = all_rows grid * grid.down in
    let begun = c.in_ok-push_between.ensures.appends ∙ ap (λ t. t ++ id) c.in_ok-push_str.ensures.bytes in
    let classed = c.in_ok-push_between-2.ensures.appends ∙ ap (λ t. t ++ class) begun in
    let sized = c.in_ok-push_size.ensures.appends ∙ ap₂ (λ t s. t ++ s) classed (ap₂ size pixels.across pixels.down) in
    let boxed = c.in_ok-push_box.ensures.appends ∙ ap₂ (λ t s. t ++ s) sized (ap₂ (box_text frame.size) sides.columns sides.rows) in
    let titled = c.in_ok-push_between-3.ensures.appends ∙ ap (λ t. t ++ title) boxed in
    c.in_ok-push_between-4.ensures.appends
    ∙ ap (λ t. t ++ description) titled
    ∙ nested (string_bytes c.args.text.now) head id class (size w h) (box_text frame.size (all_columns grid) (all_rows grid)) title description
