use Rattle.std.proofs.Common.{◌≡◌, ℕ, ◌-◌, ◌*◌, ◌<◌, List, [], ◌∷◌, ◌++◌, length, take, map, ap, ap₂, ◌∙◌, sym, subst, arith}
use Rattle.std.specs.List.{join_with_byte, range_with_len}
use Rattle.std.specs.Prelude.{vec_len}
use Rattle.std.specs.Str.{IsUtf8}
use Rattle.qrcode_render.specs.Bitmap.{row_of}
use Rattle.qrcode_render.specs.Grid.{Grid, all_columns, all_rows, pixels_of, rows_text}
use Rattle.qrcode_render.specs.Texts.{marks_text, text_of}
use Rattle.qrcode_render.proofs.Grids.{lines_rows_text}
use Rattle.qrcode_render.proofs.LineTexts.{some_lines}
use Rattle.qrcode_render.proofs.Pictures.{some_side}
use Rattle.qrcode_render.proofs.TextLines.{marks_text-IsUtf8, lines-IsUtf8, without_end}
use Rattle.qrcode_render.proofs.string.lines_of.Goals as goal

-- the rows without the last newline
without_last : (dark light raw : List ℕ) (g : Grid) (n : ℕ) → n ≡ length raw → 0 < all_columns g * g.across → 0 < all_rows g * g.down → raw ≡ rows_text dark light (10 ∷ []) g
    → take (n - 1) raw ≡ join_with_byte 10 (map (λ y. marks_text dark light (row_of (pixels_of g) y)) (range_with_len 0 (all_rows g * g.down)))
without_last dark light raw g n long across down is =
    let wide : 0 < g.across = some_side g.across (all_columns g) 0 (omega arith) in
    let high : 0 < g.down = some_side g.down (all_rows g) 0 (omega arith) in
    without_end (λ y. marks_text dark light (row_of (pixels_of g) y)) (all_rows g * g.down) raw n long down (is ∙ sym (lines_rows_text dark light (10 ∷ []) g wide high))

pub from_utf8_unchecked-requires : goal.from_utf8_unchecked-requires
from_utf8_unchecked-requires c =
    let g = c.args.grid.now in
    let dark = c.args.dark.now in
    let light = c.args.light.now in
    let rows = c.in_ok-push_rows.ensures.appends
    ∙ ap₂ (λ xs ys. xs ++ ys) c.new-raw.ensures.items (ap₂ (λ d l. rows_text d l (10 ∷ []) g) c.as_bytes.ensures.value c.as_bytes-2.ensures.value) in
    let is = c.pop.ensures.rest ∙ without_last dark light c.push_rows.new.raw.items g (vec_len c.push_rows.new.raw) (omega arith) c.requires.across c.requires.down rows in
    subst IsUtf8 (sym is) (lines-IsUtf8 (λ y. marks_text dark light (row_of (pixels_of g) y)) (all_rows g * g.down) (λ y. marks_text-IsUtf8 dark light (row_of (pixels_of g) y) c.utf8.dark c.utf8.light))

pub returns-clause-value : goal.returns-clause-value
unfolding text_of
returns-clause-value c =
    let g = c.args.grid.now in
    let dark = c.args.dark.now in
    let light = c.args.light.now in
    let rows = c.in_ok-push_rows.ensures.appends
    ∙ ap₂ (λ xs ys. xs ++ ys) c.new-raw.ensures.items (ap₂ (λ d l. rows_text d l (10 ∷ []) g) c.as_bytes.ensures.value c.as_bytes-2.ensures.value) in
    let is = c.pop.ensures.rest ∙ without_last dark light c.push_rows.new.raw.items g (vec_len c.push_rows.new.raw) (omega arith) c.requires.across c.requires.down rows in
    ap (λ v. v.items) c.from_utf8_unchecked.ensures.value
    ∙ is
    ∙ sym (some_lines (all_columns g * g.across) (map (λ y. marks_text dark light (row_of (pixels_of g) y)) (range_with_len 0 (all_rows g * g.down))) c.requires.across)
