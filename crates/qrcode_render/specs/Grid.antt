-- Pictures made of cells in rows and columns: the modules of a symbol, or single pixels.
use Rattle.std.specs.Prelude.{ℕ, ◌+◌, ◌-◌, ◌*◌, ◌/◌, ◌%◌, nat_le, nat_lt, ◌&&◌, Bool, List, ◌++◌, map, flat_map, replicate, slice_index_or}
use Rattle.std.specs.List.{range_with_len}
use Rattle.qrcode_types.specs.Colors.{is_dark}
use Rattle.qrcode_types.specs.declared.types.Color.{Color}
use Rattle.qrcode_types.specs.declared.types.Color.TheVariants.{Light}
use Rattle.qrcode_render.specs.Bitmap.{Bitmap}
use Rattle.qrcode_render.specs.Texts.{marks_text}

-- cells in row order, the number of columns and rows, the width of the border of light cells, and the width and height of a cell in pixels
pub record Grid : Type 0 where
  pub cells : List Color
  pub columns : ℕ
  pub rows : ℕ
  pub zone : ℕ
  pub across : ℕ
  pub down : ℕ

-- the number of columns, border included
abbrev pub all_columns : Grid → ℕ
all_columns g = g.columns + 2 * g.zone

-- the number of rows, border included
abbrev pub all_rows : Grid → ℕ
all_rows g = g.rows + 2 * g.zone

-- whether the cell in a column and a row, border included, is dark
abbrev pub is_dark_cell : Grid → ℕ → ℕ → Bool
is_dark_cell g column row =
    nat_le g.zone column && nat_lt column (g.zone + g.columns) && nat_le g.zone row && nat_lt row (g.zone + g.rows)
    && is_dark (slice_index_or g.cells ((row - g.zone) * g.columns + (column - g.zone)) Light)

-- the cell in a column and a row, border included, is dark and one of the first i, counted without the border
abbrev pub is_reached : Grid → ℕ → ℕ → ℕ → Bool
is_reached g i column row = is_dark_cell g column row && nat_lt ((row - g.zone) * g.columns + (column - g.zone)) i

-- which cells of a row are dark, border included
abbrev pub cell_row : Grid → ℕ → List Bool
cell_row g row = map (λ column. is_dark_cell g column row) (range_with_len 0 (all_columns g))

-- the bitmap: the pixels of dark cells are dark, all others light
abbrev pub pixels_of : Grid → Bitmap
pixels_of g =
    let w = all_columns g * g.across in
    let h = all_rows g * g.down in
    record { across = w; down = h; marks = map (λ i. is_dark_cell g (i % w / g.across) (i / w / g.down)) (range_with_len 0 (w * h)) }

-- each element n times
abbrev pub each : {A : Type 0} → ℕ → List A → List A
each n xs = flat_map (λ x. replicate n x) xs

-- a text n times
abbrev pub repeated : ℕ → List ℕ → List ℕ
repeated n text = flat_map (λ _. text) (range_with_len 0 n)

-- the text of a row of pixels: for each cell the text of a dark or light pixel, once for each pixel of its width
abbrev pub row_text : List ℕ → List ℕ → Grid → ℕ → List ℕ
row_text dark light g row = marks_text (repeated g.across dark) (repeated g.across light) (cell_row g row)

-- the text of all rows of pixels: that of each row of cells and `end`, once for each pixel of a cell's height
abbrev pub rows_text : List ℕ → List ℕ → List ℕ → Grid → List ℕ
rows_text dark light end g = flat_map (λ row. repeated g.down (row_text dark light g row ++ end)) (range_with_len 0 (all_rows g))
