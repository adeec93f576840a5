-- Squares of modules in pictures.
use Rattle.std.specs.Prelude.{◌≡◌, ℕ, ◌+◌, ◌*◌, ◌≤◌, ◌<◌, Bool, true, false, List, length, map, not, take, slice_index_or}
use Rattle.std.specs.List.{list_all}
use Rattle.qrcode_types.specs.Colors.{is_dark}
use Rattle.qrcode_types.specs.declared.types.Color.{Color}
use Rattle.qrcode_types.specs.declared.types.Color.TheVariants.{Light}
use Rattle.qrcode_render.specs.Bitmap.{Bitmap}
use Rattle.qrcode_render.specs.Layout.{Layout, layout, pixels_across}
use Rattle.qrcode_render.specs.Picture.{picture, is_dark_pixel}

abbrev pub inverted : Bitmap → Bitmap  -- the pixels with dark and light swapped
inverted b = record b { marks = map not b.marks }

-- the first row is all dark, like the margin of a picture with dark and light swapped
abbrev pub has_dark_edge : Bitmap → Bool
has_dark_edge b = list_all (λ mark. mark) (take b.across b.marks)

abbrev pub mark_at : Bitmap → ℕ → ℕ → Bool  -- the pixel in column x and row y is dark
mark_at b x y = slice_index_or b.marks (y * b.across + x) false

abbrev pub IsRowOf : List Bool → Layout → List Color → ℕ → Type 0  -- row y of the pixels is that of the picture of the modules
IsRowOf marks at modules y =
    (x : ℕ) → x < pixels_across at → slice_index_or marks (y * pixels_across at + x) false ≡ is_dark_pixel at modules x y

-- the pixels are the picture of a square of count modules a side with a quiet zone of zone modules, scale pixels per module and side
pub record IsSquareIn (b : Bitmap) (count zone scale : ℕ) (modules : List Color) : Type 0 where
  pub at_least : 1 ≤ scale
  pub square : length modules ≡ count * count
  pub shown : b ≡ picture (layout count zone scale scale) modules

-- a square as in IsSquareIn, in whose first row the module in this column is dark
pub record IsFramedIn (b : Bitmap) (count zone scale column : ℕ) (modules : List Color) : Type 0 where
  pub square : IsSquareIn b count zone scale modules
  pub inside : column < count
  pub dark : is_dark (slice_index_or modules column Light) ≡ true
