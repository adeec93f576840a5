-- Squares of modules sampled in a grid.
use Rattle.std.specs.Prelude.{◌≡◌, ℕ, ◌+◌, ◌-◌, ◌*◌, ◌/◌, ◌%◌, ◌≤◌, ◌<◌, List, map}
use Rattle.std.specs.List.{range_with_len}
use Rattle.qrcode_types.specs.Colors.{color_of}
use Rattle.qrcode_types.specs.declared.types.Color.{Color}
use Rattle.qrcode_render.specs.Bitmap.{Bitmap}
use Rattle.qrcode_scan.specs.Squares.{mark_at}
use Rattle.qrcode_scan.specs.declared.grids.Grid.{Grid}

-- the column and the row of the pixel at the centre of the module in column i and row j; in a turned grid, the next row of modules begins further left,
-- and the next column further down
abbrev pub column_at : Grid → ℕ → ℕ → ℕ
column_at g i j = (g.left + i * g.across - j * g.lean) / g.parts

abbrev pub row_at : Grid → ℕ → ℕ → ℕ
row_at g i j = (g.top + j * g.down + i * g.fall) / g.parts

-- the colour of the pixel at the centre of each module, row by row
abbrev pub colours_at : Bitmap → Grid → List Color
colours_at b g = map (λ i. color_of (mark_at b (column_at g (i % g.count) (i / g.count)) (row_at g (i % g.count) (i / g.count)))) (range_with_len 0 (g.count * g.count))

-- the centres of all modules are in the picture: that of the lower left one, that of the upper right one, and that of the last one
pub record IsInside (b : Bitmap) (g : Grid) : Type 0 where
  pub left : (g.count - 1) * g.lean ≤ g.left
  pub across : column_at g (g.count - 1) 0 < b.across
  pub down : row_at g (g.count - 1) (g.count - 1) < b.down

-- the modules are those of a grid, all of whose centres are in the picture
pub record IsSampled (b : Bitmap) (g : Grid) (modules : List Color) : Type 0 where
  pub some : (1 ≤ g.count) × (1 ≤ g.parts)
  pub inside : IsInside b g
  pub colours : modules ≡ colours_at b g
