-- Squares of modules in whole pixels, and the finder patterns by which they are found.
use Rattle.std.specs.Prelude.{◌≡◌, ◌⊎◌, ◌++◌, ◌∷◌, [], ℕ, ◌+◌, ◌-◌, ◌*◌, ◌/◌, ◌≤◌, ◌<◌, not, Bool, true, false, List, Option, Some, None, length, slice_index_or, All, AllPairs, Any, if◌then◌else◌}
use Rattle.qrcode_types.specs.Colors.{is_dark}
use Rattle.qrcode_types.specs.declared.types.Color.{Color}
use Rattle.qrcode_types.specs.declared.types.Color.TheVariants.{Light}
use Rattle.qrcode_layout.specs.Figures.{square, is_dark_by_rule}
use Rattle.qrcode_render.specs.Bitmap.{Bitmap}
use Rattle.qrcode_render.specs.Layout.{layout}
use Rattle.qrcode_render.specs.Picture.{is_dark_pixel}
use Rattle.qrcode_reader.specs.Positions.{seen}
use Rattle.qrcode_reader.specs.Readings.{ReadsParts}
use Rattle.qrcode_reader.specs.declared.positions.Position.{Position}
use Rattle.qrcode_reader.specs.declared.spell.parts.Part.{Part}
use Rattle.qrcode_scan.specs.Grids.{column_at, row_at, IsInside}
use Rattle.qrcode_scan.specs.Squares.{mark_at}
use Rattle.qrcode_scan.specs.declared.grids.Grid.{Grid}

abbrev pub finder_dark : ℕ → ℕ → Bool  -- the module in column i and row j of a finder pattern is dark
finder_dark i j = is_dark_by_rule 0 (square 0 0 7) i j

-- a finder pattern begins in this column and row (mark i j says whether the module in column i and row j is dark)
abbrev pub HasFinder : (ℕ → ℕ → Bool) → ℕ → ℕ → Type 0
HasFinder mark column row = (i j : ℕ) → i < 7 → j < 7 → mark (column + i) (row + j) ≡ finder_dark i j

-- where a finder pattern in a corner begins, across or down: with the first module, or seven before the end
abbrev pub corner_start : Bool → ℕ → ℕ
corner_start is_last count = if is_last then count - 7 else 0

-- a square with `count` modules a side has finder patterns in three corners: in this one and in the two next to it
pub record HasFinders (mark : ℕ → ℕ → Bool) (count : ℕ) (is_right is_lower : Bool) : Type 0 where
  pub corner : HasFinder mark (corner_start is_right count) (corner_start is_lower count)
  pub beside : HasFinder mark (corner_start (not is_right) count) (corner_start is_lower count)
  pub below : HasFinder mark (corner_start is_right count) (corner_start (not is_lower) count)

-- A square of modules in a picture: its first pixel, the pixels of a module across and down, its version, the corner whose finder pattern has others
-- beside and above or below it, and the modules row by row.
pub record Whole : Type 0 where
  pub left : ℕ
  pub top : ℕ
  pub scale : ℕ
  pub version : ℕ
  pub is_right : Bool
  pub is_lower : Bool
  pub modules : List Color

abbrev pub count_of : Whole → ℕ  -- the modules along a side of a Normal symbol
count_of w = 17 + 4 * w.version

abbrev pub has_dark : Whole → ℕ → ℕ → Bool  -- the module in column i and row j is dark
has_dark w i j = is_dark (slice_index_or w.modules (j * count_of w + i) Light)

-- The pixels show the square: from its first pixel on they are the picture of its modules without a quiet zone. It has finder patterns in three
-- corners. Whatever other pixels show is free.
pub record IsWholeIn (b : Bitmap) (w : Whole) : Type 0 where
  pub version : (1 ≤ w.version) × (w.version ≤ 40)
  pub at_least : 1 ≤ w.scale
  pub square : length w.modules ≡ count_of w * count_of w
  pub across : w.left + count_of w * w.scale ≤ b.across
  pub down : w.top + count_of w * w.scale ≤ b.down
  pub shown : (x y : ℕ) → x < count_of w * w.scale → y < count_of w * w.scale
      → mark_at b (w.left + x) (w.top + y) ≡ is_dark_pixel (layout (count_of w) 0 w.scale w.scale) w.modules x y
  pub finders : HasFinders (has_dark w) (count_of w) w.is_right w.is_lower

-- the pixels show a square that decodes in some position
pub record ShowsCode (b : Bitmap) (w : Whole) : Type 0 where
  pub whole : IsWholeIn b w
  pub position : Position
  pub is_inverted : Bool
  pub bytes : List ℕ
  pub parts : List Part
  pub read : ReadsParts (seen (count_of w) position is_inverted w.modules) bytes parts

-- the grid of a square from pixel x y on, with `scale` pixels per module and `side` modules a side: the middle of its modules
pub record IsGridAt (x y scale side : ℕ) (g : Grid) : Type 0 where
  pub count : g.count ≡ side
  pub left : g.left ≡ x + scale / 2
  pub top : g.top ≡ y + scale / 2
  pub across : g.across ≡ scale
  pub down : g.down ≡ scale
  pub lean : g.lean ≡ 0
  pub fall : g.fall ≡ 0
  pub parts : g.parts ≡ 1

abbrev pub IsGridOf : Whole → Grid → Type 0  -- the grid of a square in whole pixels
IsGridOf w g = IsGridAt w.left w.top w.scale (count_of w) g

abbrev pub marked : Bitmap → Grid → ℕ → ℕ → Bool  -- the pixel at the centre of the module in column i and row j of a grid is dark
marked b g i j = mark_at b (column_at g i j) (row_at g i j)

-- a grid in the pixels has finder patterns in this corner and the two next to it, as the centres of its modules show
pub record HasPatterns (b : Bitmap) (g : Grid) (is_right is_lower : Bool) : Type 0 where
  pub inside : IsInside b g
  pub finders : HasFinders (marked b g) g.count is_right is_lower

-- exactly five modules of `scale` light pixels begin in column x of row y, behind a dark pixel and below one: the ring in a finder pattern begins there
pub record IsRing (b : Bitmap) (x y scale : ℕ) : Type 0 where
  pub light : (k : ℕ) → k < 5 * scale → mark_at b (x + k) y ≡ false
  pub end : x + 5 * scale < b.across → mark_at b (x + 5 * scale) y ≡ true
  pub before : mark_at b (x - 1) y ≡ true
  pub above : mark_at b x (y - 1) ≡ true

-- where the ring of a finder pattern in a corner begins, across or down, in a square that begins at `start`
abbrev pub ring_start : ℕ → Bool → ℕ → ℕ → ℕ
ring_start start is_last count scale = start + (corner_start is_last count * scale + scale)

-- A grid has whole pixels from this pixel on, and finder patterns in three corners. The ring of one begins where it should, so there is at most one such
-- grid for each ring, corner and number of modules.
pub record IsPatterned (b : Bitmap) (g : Grid) : Type 0 where
  pub x : ℕ
  pub y : ℕ
  pub scale : ℕ
  pub is_right : Bool
  pub is_lower : Bool
  pub place : IsGridAt x y scale g.count g
  pub patterns : HasPatterns b g is_right is_lower
  pub ring : IsRing b (ring_start x is_right g.count scale) (ring_start y is_lower g.count scale) scale

-- two grids have the same modules
pub record AreSame (g h : Grid) : Type 0 where
  pub count : g.count ≡ h.count
  pub left : g.left ≡ h.left
  pub top : g.top ≡ h.top
  pub across : g.across ≡ h.across
  pub down : g.down ≡ h.down
  pub lean : g.lean ≡ h.lean
  pub fall : g.fall ≡ h.fall
  pub parts : g.parts ≡ h.parts

-- different grids, all of whole pixels with finder patterns in three corners
pub record ArePatterned (b : Bitmap) (grids : List Grid) : Type 0 where
  pub patterned : All (IsPatterned b) grids
  pub different : AllPairs (λ g h. ¬ AreSame g h) grids

abbrev pub HasMany : Bitmap → Type 0  -- 1,024 or more grids of whole pixels have finder patterns in three corners
HasMany b = (grids : List Grid) × ((1024 ≤ length grids) × ArePatterned b grids)

abbrev pub IsTriedIn : List Grid → Whole → Type 0  -- the square's grid is one of these, unless there are already 1,024
IsTriedIn grids w = (1024 ≤ length grids) ⊎ Any (IsGridOf w) grids

-- the first light pixel of the finder pattern in the square's corner: column and row
abbrev pub light_column : Whole → ℕ
light_column w = ring_start w.left w.is_right (count_of w) w.scale

abbrev pub light_row : Whole → ℕ
light_row w = ring_start w.top w.is_lower (count_of w) w.scale

-- the pixels show the square, and the finder pattern in its corner has this first light pixel
pub record BeginsAt (b : Bitmap) (w : Whole) (x y : ℕ) : Type 0 where
  pub whole : IsWholeIn b w
  pub column : light_column w ≡ x
  pub row : light_row w ≡ y

-- the square has this version and scale, and in this corner a finder pattern with this first light pixel
pub record IsSought (b : Bitmap) (x y scale version : ℕ) (is_right is_lower : Bool) (w : Whole) : Type 0 where
  pub begins : BeginsAt b w x y
  pub size : w.scale ≡ scale
  pub number : w.version ≡ version
  pub right : w.is_right ≡ is_right
  pub lower : w.is_lower ≡ is_lower

-- what a push does to a list of grids: nothing if there is no grid, if it is known, or if there are 1,024; else it is the last one
abbrev pub IsPushed : List Grid → Option Grid → List Grid → Type 0
IsPushed old None new = new ≡ old
IsPushed old (Some g) new =
    ((new ≡ old) × ((1024 ≤ length old) ⊎ Any (λ h. AreSame h g) old)) ⊎ ((new ≡ old ++ g ∷ []) × All (λ h. ¬ AreSame h g) old)
