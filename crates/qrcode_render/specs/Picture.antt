-- The picture of a symbol, pixel by pixel.
use Rattle.std.specs.Prelude.{ℕ, ◌+◌, ◌-◌, ◌*◌, ◌/◌, ◌%◌, nat_le, nat_lt, ◌&&◌, Bool, List, map, slice_index_or}
use Rattle.std.specs.List.{range_with_len}
use Rattle.qrcode_types.specs.Colors.{is_dark}
use Rattle.qrcode_types.specs.declared.types.Color.{Color}
use Rattle.qrcode_types.specs.declared.types.Color.TheVariants.{Light}
use Rattle.qrcode_render.specs.Bitmap.{Bitmap}
use Rattle.qrcode_render.specs.Layout.{Layout, pixels_across, pixels_down}

-- whether the pixel in column x and row y is dark: its module is not in the quiet zone, and dark
abbrev pub is_dark_pixel : Layout → List Color → ℕ → ℕ → Bool
is_dark_pixel at content x y =
    let column = x / at.across in
    let row = y / at.down in
    nat_le at.zone column && nat_lt column (at.zone + at.count) && nat_le at.zone row && nat_lt row (at.zone + at.count)
    && is_dark (slice_index_or content ((row - at.zone) * at.count + (column - at.zone)) Light)

-- the bitmap: the pixels of dark modules are dark, all others light
abbrev pub picture : Layout → List Color → Bitmap
picture at content =
    let w = pixels_across at in
    let h = pixels_down at in
    record { across = w; down = h; marks = map (λ i. is_dark_pixel at content (i % w) (i / w)) (range_with_len 0 (w * h)) }
