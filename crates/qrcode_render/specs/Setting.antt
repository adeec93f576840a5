-- What a renderer is set to.
use Rattle.std.specs.Prelude.{ℕ, ◌+◌, ◌-◌, ◌*◌, ◌/◌, ◌^◌, ◌≤◌, ◌≡◌, ◌⊎◌, max, nat_lt, ◌&&◌, Bool, List, length}
use Rattle.qrcode_types.specs.declared.types.Color.{Color}
use Rattle.qrcode_render.specs.Bitmap.{Bitmap}
use Rattle.qrcode_render.specs.Drawn.{drawn}
use Rattle.qrcode_render.specs.Layout.{Layout, layout, modules_across, pixels_across, pixels_down}
use Rattle.qrcode_render.specs.Picture.{picture}

-- modules in row order, their number along a side, that of the quiet zone as drawn, the width and height of a module in
-- pixels, the pixels for dark and light, and the modules of the quiet zone when it is on
pub record Setting (P : Type 0) : Type 0 where
  pub content : List Color
  pub count : ℕ
  pub zone : ℕ
  pub across : ℕ
  pub down : ℕ
  pub dark : P
  pub light : P
  pub whole_zone : ℕ

-- modules in row order, their number along a side, that of the quiet zone, and the width and height of a module in pixels
pub record Square : Type 0 where
  pub content : List Color
  pub count : ℕ
  pub zone : ℕ
  pub across : ℕ
  pub down : ℕ

-- the modules form a square, and each has at least one pixel across and down
pub record IsSquare (m : Square) : Type 0 where
  pub square : length m.content ≡ m.count * m.count
  pub across : 1 ≤ m.across
  pub down : 1 ≤ m.down

-- the modules of a renderer's setting
abbrev pub square_of : {P : Type 0} → Setting P → Square
square_of s = record {
  content = s.content;
  count = s.count;
  zone = s.zone;
  across = s.across;
  down = s.down;
}

-- where the modules of a square are in its picture
abbrev pub square_layout : Square → Layout
square_layout m = layout m.count m.zone m.across m.down

-- the setting of a renderer of these modules, with the pixels for dark and light, and the modules of the quiet zone when it is on
abbrev pub setting_of : {P : Type 0} → Square → P → P → ℕ → Setting P
setting_of m dark light whole = record {
  content = m.content;
  count = m.count;
  zone = m.zone;
  across = m.across;
  down = m.down;
  dark = dark;
  light = light;
  whole_zone = whole;
}

-- where the modules are in the picture
abbrev pub layout_of : {P : Type 0} → Setting P → Layout
layout_of s = layout s.count s.zone s.across s.down

-- the number of modules along a side of the picture
abbrev pub side_of : {P : Type 0} → Setting P → ℕ
side_of s = modules_across (layout_of s)

-- the picture has at least one column and one row of pixels
pub record HasPixels {P : Type 0} (s : Setting P) : Type 0 where
  pub across : 1 ≤ pixels_across (layout_of s)
  pub down : 1 ≤ pixels_down (layout_of s)

-- whether the modules and the pixels along each side are below 2^32
abbrev pub fits : {P : Type 0} → Setting P → Bool
fits s = nat_lt (side_of s) (2 ^ 32) && nat_lt (side_of s * s.across) (2 ^ 32) && nat_lt (side_of s * s.down) (2 ^ 32)

-- which pixels of the picture are dark
abbrev pub picture_of : {P : Type 0} → Setting P → Bitmap
picture_of s = picture (layout_of s) s.content

-- the complete drawing of a canvas: its start, and a rectangle for each dark module, in row order
abbrev pub drawing_of : {P D : Type 0} → (ℕ → ℕ → P → P → D) → (ℕ → ℕ → ℕ → ℕ → D → D) → Setting P → D
drawing_of start rect s =
    drawn rect (layout_of s) s.content (start (pixels_across (layout_of s)) (pixels_down (layout_of s)) s.dark s.light)

-- the size of a module with which `side` modules have at least `pixels` pixels
abbrev pub least_size : ℕ → ℕ → ℕ
least_size side pixels = max ((pixels + side - 1) / side) 1

-- the size of a module with which `side` modules have at most `pixels` pixels, or 1 if there is none
abbrev pub greatest_size : ℕ → ℕ → ℕ
greatest_size side pixels = max (pixels / side) 1

-- the smallest size, of at least 1, with which `side` modules have at least `pixels` pixels
pub record IsLeastSize (side pixels size : ℕ) : Type 0 where
  pub positive : 1 ≤ size
  pub reaches : pixels ≤ side * size
  pub least : (k : ℕ) → 1 ≤ k → pixels ≤ side * k → size ≤ k

-- the largest size with which `side` modules have at most `pixels` pixels, or 1 if none of at least 1 does
pub record IsGreatestSize (side pixels size : ℕ) : Type 0 where
  pub positive : 1 ≤ size
  pub keeps : (side * size ≤ pixels) ⊎ (size ≡ 1)
  pub greatest : (k : ℕ) → 1 ≤ k → side * k ≤ pixels → k ≤ size
