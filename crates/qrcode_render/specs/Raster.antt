-- Rows of pixels, and the pixels for dark and light.
use Rattle.std.specs.Prelude.{ℕ}
use Rattle.qrcode_render.specs.Bitmap.{Bitmap, blank, with_dark, with_dark_rect}

-- which pixels are dark, and the pixels for dark and light
pub record Raster (P : Type 0) : Type 0 where
  pub bitmap : Bitmap
  pub dark : P
  pub light : P

-- all pixels light
abbrev pub light_raster : {P : Type 0} → ℕ → ℕ → P → P → Raster P
light_raster across down dark light = record { bitmap = blank across down; dark = dark; light = light }

-- the rows after a pixel became dark
abbrev pub dark_pixel_step : {P : Type 0} → ℕ → ℕ → Raster P → Raster P
dark_pixel_step x y r = record r { bitmap = with_dark x y r.bitmap }

-- the rows after a rectangle became dark
abbrev pub dark_rect_step : {P : Type 0} → ℕ → ℕ → ℕ → ℕ → Raster P → Raster P
dark_rect_step left top width height r = record r { bitmap = with_dark_rect left top width height r.bitmap }
