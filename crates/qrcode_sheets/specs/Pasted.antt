-- A picture in the middle of a symbol, pixel by pixel.
use Rattle.std.specs.Prelude.{ℕ, ◌+◌, ◌-◌, ◌*◌, ◌/◌, ◌==◌, ◌&&◌, nat_le, nat_lt, Bool, List, Option, Some, None, slice_get, if◌then◌else◌}
use Rattle.qrcode_png.specs.Image.{Shade, rgba}
use Rattle.qrcode_render.specs.Layout.{Layout}
use Rattle.qrcode_sheets.specs.declared.pasting.Inset.{Inset}
use Rattle.qrcode_sheets.specs.declared.pasting.Window.{Window}
use Rattle.qrcode_sheets.specs.declared.places.Region.{Region}
use Rattle.qrcode_sheets.specs.Sheets.{Overlay, Pixels}

-- the weighted mean of two levels, rounded to the nearest
abbrev pub mean : ℕ → ℕ → ℕ → ℕ → ℕ
mean own level other below = (own * level + other * below + (own + other) / 2) / (own + other)

-- a colour drawn over another, by its opacity
abbrev pub over : Shade → Shade → Shade
over under s =
    let own = 255 * s.opacity in
    let other = under.opacity * (255 - s.opacity) in
    if own + other == 0 then under
    else record {
      red = mean own s.red other under.red;
      green = mean own s.green other under.green;
      blue = mean own s.blue other under.blue;
      opacity = (own + other + 127) / 255;
    }

-- an index below `count` scaled to one below `size`: the pixel at the middle of this one
abbrev pub scaled : ℕ → ℕ → ℕ → ℕ
scaled place count size = (2 * place + 1) * size / (2 * count)

abbrev pub is_in_place : Region → ℕ → ℕ → Bool  -- the pixel in column x and row y is in the place
is_in_place p x y = nat_le p.left x && nat_lt x (p.left + p.width) && nat_le p.top y && nat_lt y (p.top + p.height)

-- the pixel of the picture that is shown at column x and row y of the drawing, if any
abbrev pub logo_at : Inset → ℕ → ℕ → Option (List ℕ)
logo_at n x y =
    if is_in_place n.place x y then
    slice_get n.pixels.now (scaled (y - n.place.top) n.place.height n.down * n.across + scaled (x - n.place.left) n.place.width n.across)
    else None

abbrev pub shows : Window → ℕ → ℕ → Bool  -- the window shows the module in column x and row y
shows w x y = nat_le w.left x && nat_lt x (w.left + w.width) && nat_le w.top y && nat_lt y (w.top + w.height)

abbrev pub is_shown : Layout → Window → ℕ → ℕ → Bool  -- the window shows the module of the pixel in column x and row y
is_shown at w x y = nat_le at.zone (x / at.across) && nat_le at.zone (y / at.down) && shows w (x / at.across - at.zone) (y / at.down - at.zone)

abbrev pub over_if : Shade → Option (List ℕ) → Shade  -- a pixel over a colour, if there is one
over_if under None = under
over_if under (Some pixel) = over under (rgba pixel)

-- the colour of the pixel in column x and row y: its own, with the picture over it in the window
abbrev pub inset_shade : Layout → Window → Inset → ℕ → ℕ → Shade → Shade
inset_shade at w n x y own = if is_shown at w x y then over_if own (logo_at n x y) else own

-- likewise; without a picture, its own
abbrev pub shade_with : Layout → Overlay → ℕ → ℕ → Shade → Shade
shade_with at (Pixels window inset) x y own = inset_shade at window inset x y own
shade_with at over x y own = own
