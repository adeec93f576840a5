-- Where the modules are in a picture.
use Rattle.std.specs.Prelude.{ℕ, ◌+◌, ◌*◌}

-- the number of modules along a side, that of the quiet zone on each side, and the width and height of a module in pixels
pub record Layout : Type 0 where
  pub count : ℕ
  pub zone : ℕ
  pub across : ℕ
  pub down : ℕ

abbrev pub layout : ℕ → ℕ → ℕ → ℕ → Layout
layout count zone across down = record { count = count; zone = zone; across = across; down = down }

-- the number of modules along a side, quiet zone included
abbrev pub modules_across : Layout → ℕ
modules_across at = at.count + 2 * at.zone

-- the width of the picture in pixels
abbrev pub pixels_across : Layout → ℕ
pixels_across at = modules_across at * at.across

-- the height of the picture in pixels
abbrev pub pixels_down : Layout → ℕ
pixels_down at = modules_across at * at.down
