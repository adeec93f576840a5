-- Rows of pixels.
use Rattle.std.proofs.Common.{◌≡◌, ℕ, ◌*◌, ◌/◌, ◌<◌, List, [], ◌∷◌, Bool, false, length, get_or, map, refl, ap, ◌∙◌, sym, arith}
use Rattle.std.specs.List.{range_with_len}
use Rattle.std.proofs.lemmas.List.FromFn.{fill_by_all, length-map-range_with_len}
use Rattle.qrcode_render.specs.Bitmap.{row_of}
use Rattle.qrcode_render.specs.Grid.{Grid, all_columns, all_rows, cell_row, each, is_dark_cell, pixels_of}
use Rattle.qrcode_render.proofs.Grids.{length-each, get_or-each, row_of-pixels}

-- each element a times, as a function of the place in the result
each_by_place : (a : ℕ) (xs : List Bool) → 0 < a → each a xs ≡ map (λ x. get_or xs (x / a) false) (range_with_len 0 (length xs * a))
each_by_place a xs some = fill_by_all (λ x. get_or xs (x / a) false) (each a xs) (length xs * a) false (length-each a xs) (λ x below. get_or-each a xs x false some below)

-- a row of pixels, from the flags of its cells
pub pixels_by_cells : (g : Grid) (y : ℕ) (cells : List Bool) → 0 < g.across → 0 < g.down → y < all_rows g * g.down → cells ≡ cell_row g (y / g.down) → map (λ x. get_or cells (x / g.across) false) (range_with_len 0 (length cells * g.across)) ≡ row_of (pixels_of g) y
pixels_by_cells g y cells wide high inside is =
    sym (each_by_place g.across cells wide) ∙ ap (each g.across) is ∙ sym (row_of-pixels g y wide high inside)

each_once : (xs : List Bool) → each 1 xs ≡ xs
each_once [] = refl
each_once (x ∷ xs) = ap (λ ys. x ∷ ys) (each_once xs)

-- a row of pixels if a cell is one pixel wide
pub pixels_are_cells : (g : Grid) (y : ℕ) → g.across ≡ 1 → 0 < g.down → y < all_rows g * g.down → cell_row g (y / g.down) ≡ row_of (pixels_of g) y
pixels_are_cells g y once high inside =
    sym (each_once (cell_row g (y / g.down)))
    ∙ ap (λ a. each a (cell_row g (y / g.down))) (sym once)
    ∙ sym (row_of-pixels g y (omega arith) high inside)

-- a row of pixels is as long as the picture is wide
pub length-row : (g : Grid) (y : ℕ) → 0 < g.across → 0 < g.down → y < all_rows g * g.down → length (row_of (pixels_of g) y) ≡ all_columns g * g.across
length-row g y wide high inside =
    ap length (row_of-pixels g y wide high inside)
    ∙ length-each g.across (cell_row g (y / g.down))
    ∙ ap (λ n. n * g.across) (length-map-range_with_len (λ column. is_dark_cell g column (y / g.down)) 0 (all_columns g))
