-- Bitmaps: which pixels are dark.
use Rattle.std.specs.Prelude.{ℕ, ◌+◌, ◌*◌, Bool, true, false, List, [], ◌∷◌, slice_set, replicate}
use Rattle.std.specs.List.{slice_range}
use Rattle.qrcode_types.specs.Colors.{is_dark}
use Rattle.qrcode_types.specs.declared.types.Color.{Color}
use Rattle.qrcode_render.specs.Drawn.{filled}

-- the width and height in pixels, and for each pixel in row order whether it is dark
pub record Bitmap : Type 0 where
  pub across : ℕ
  pub down : ℕ
  pub marks : List Bool

-- all pixels light
abbrev pub blank : ℕ → ℕ → Bitmap
blank across down = record { across = across; down = down; marks = replicate (across * down) false }

-- the flags after the pixel in column x and row y became dark, in rows of `across` pixels
abbrev pub marked : ℕ → ℕ → ℕ → List Bool → List Bool
marked across x y marks = slice_set marks (y * across + x) true

-- the bitmap after the pixel in column x and row y became dark
abbrev pub with_dark : ℕ → ℕ → Bitmap → Bitmap
with_dark x y b = record b { marks = marked b.across x y b.marks }

-- the bitmap after the pixels of a rectangle became dark
abbrev pub with_dark_rect : ℕ → ℕ → ℕ → ℕ → Bitmap → Bitmap
with_dark_rect left top width height b = record b { marks = filled (marked b.across) left top width height b.marks }

-- the flags of row y
abbrev pub row_of : Bitmap → ℕ → List Bool
row_of b y = slice_range b.marks (y * b.across) (y * b.across + b.across)

-- the flags after a row of modules, each of one pixel, was written from place `start` on
abbrev pub marked_line : ℕ → List Color → List Bool → List Bool
marked_line start [] marks = marks
marked_line start (c ∷ line) marks = marked_line (start + 1) line (slice_set marks start (is_dark c))
