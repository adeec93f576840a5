-- Rectangles in a drawing.
use Rattle.std.specs.Prelude.{ℕ, ◌+◌, ◌-◌, ◌*◌, ◌/◌, ◌%◌, ◌<◌, ◌≤◌, ◌^◌, max, min}
use Rattle.qrcode_sheets.specs.declared.places.Region.{Region}

-- the place has a pixel, and its right and bottom ends fit in 32 bits
pub record HasPixels (p : Region) : Type 0 where
  pub across : 1 ≤ p.width
  pub down : 1 ≤ p.height
  pub right : p.left + p.width < 2 ^ 32
  pub bottom : p.top + p.height < 2 ^ 32

-- the largest rectangle in the middle of a place with the proportions across to down, rounded down, at least one pixel wide and high
abbrev pub fitted : Region → ℕ → ℕ → Region
fitted p across down =
    let width = min (max (max across 1 * p.height / max down 1) 1) p.width in
    let height = min (max (max down 1 * p.width / max across 1) 1) p.height in
    record { left = p.left + (p.width - width) / 2; top = p.top + (p.height - height) / 2; width = width; height = height }

-- the square in the middle of a place: `size` pixels along its side, one more if it could not be centred across otherwise, and fewer if there is no room
abbrev pub square : Region → ℕ → Region
square p size =
    let across = min size p.width in
    let side = min (across + (p.width - across) % 2) p.height in
    record { left = p.left + (p.width - side) / 2; top = p.top + (p.height - side) / 2; width = side; height = side }
