-- The codes in a picture.
use Rattle.std.specs.Prelude.{◌≡◌, ◌⊎◌, ℕ, ◌+◌, ◌-◌, ◌*◌, ◌/◌, ◌≤◌, max, Bool, List, Some, None, All, AllPairs, Any}
use Rattle.qrcode_types.specs.declared.types.Color.{Color}
use Rattle.qrcode_render.specs.Bitmap.{Bitmap}
use Rattle.qrcode_scan.specs.Grids.{IsSampled}
use Rattle.qrcode_reader.specs.Positions.{seen}
use Rattle.qrcode_reader.specs.Readings.{IsPartsCause, ReadsParts}
use Rattle.qrcode_reader.specs.declared.spell.parts.Part.{Part}
use Rattle.qrcode_reader.specs.declared.refusals.Unread as reading
use Rattle.qrcode_reader.specs.declared.positions.Position.{Position}
use Rattle.qrcode_scan.specs.Scans.{IsFoundIn, IsScanRead, IsSeenAs}
use Rattle.qrcode_scan.specs.declared.scanning.Scan.{Scan}
use Rattle.qrcode_scan.specs.Wholes.{HasMany, IsGridOf, ShowsCode, Whole}
use Rattle.qrcode_scan.specs.declared.codes.Codes.{Codes}
use Rattle.qrcode_scan.specs.declared.codes.Missed as missed
use Rattle.qrcode_scan.specs.declared.codes.PixelBounds.{PixelBounds}
use Rattle.qrcode_scan.specs.declared.codes.Found.{Found}
use Rattle.qrcode_scan.specs.declared.grids.Grid.{Grid}
use Rattle.qrcode_scan.specs.declared.codes.Found.TheVariants.{Nothing, Code, Missed}

-- a decoded code: its square is in the pixels, and the square decodes to it
pub record IsCodeIn (b : Bitmap) (is_inverted : Bool) (scan : Scan) : Type 0 where
  pub inverted : scan.is_inverted ≡ is_inverted
  pub square : IsFoundIn scan b
  pub read : IsScanRead scan

-- why a square does not decode that has format information, so it is probably a code
abbrev pub IsProbable : reading.Unread → Type 0
IsProbable reading.TheVariants.OutOfMemory = ⊥
IsProbable reading.TheVariants.NoSuchSide = ⊥
IsProbable reading.TheVariants.NoFormat = ⊥
IsProbable (reading.TheVariants.Damaged b) = Unit
IsProbable reading.TheVariants.NotSpelled = Unit

-- a square in a grid that decodes in no position, but has format information; the cause is that of the square as it is
pub record IsMissedIn (b : Bitmap) (m : missed.Missed) : Type 0 where
  pub modules : List Color
  pub sampled : IsSampled b m.grid modules
  pub cause : IsPartsCause modules m.cause
  pub probable : IsProbable m.cause
  pub none : (p : Position) (is_inverted : Bool) (bytes : List ℕ) (parts : List Part) → ¬ ReadsParts (seen m.grid.count p is_inverted modules) bytes parts

-- such a square, in a picture
pub record IsMissedOf (bytes : List ℕ) (m : missed.Missed) : Type 0 where
  pub pixels : Bitmap
  pub is_inverted : Bool
  pub seen : IsSeenAs bytes pixels is_inverted
  pub missed : IsMissedIn pixels m

-- the side of the largest upright square in a turned one with the same middle; each side of the latter comes `one` in one direction, across or down, and
-- `other` in the other; if it is not turned, `other` is 0 and this is `one`
abbrev pub inner_side : ℕ → ℕ → ℕ
inner_side one other = (one * one + other * other) / max (one + other) 1

-- The place of a grid in pixels: the square of its modules. Of a turned grid it is the largest upright square in that one with the same middle. x and y
-- are twice the middle, in fractions of a pixel: halfway between the middles of the pixels at the centres of the first and the last module.
abbrev pub bounds_of : Grid → PixelBounds
bounds_of g =
    let parts = max g.parts 1 in
    let width = g.count * inner_side g.across g.fall in
    let height = g.count * inner_side g.down g.lean in
    let steps = g.count - 1 in
    let x = 2 * g.left + parts + steps * g.across - steps * g.lean in
    let y = 2 * g.top + parts + steps * g.down + steps * g.fall in
    record {
      left = (x - width) / parts / 2;
      top = (y - height) / parts / 2;
      right = (x + width) / parts / 2;
      bottom = (y + height) / parts / 2;
    }

-- two places have no pixel in common: one ends before the other begins, across or down
abbrev pub AreApart : PixelBounds → PixelBounds → Type 0
AreApart p q = (p.right ≤ q.left) ⊎ ((q.right ≤ p.left) ⊎ ((p.bottom ≤ q.top) ⊎ (q.bottom ≤ p.top)))

-- the places of two squares that do not decode have no pixel in common; so none is told twice
abbrev pub AreOther : missed.Missed → missed.Missed → Type 0
AreOther one other = AreApart (bounds_of other.grid) (bounds_of one.grid)

-- the code was not found by finder patterns, or its place has no pixel in common with that of this grid
abbrev pub IsApartFrom : Grid → Scan → Type 0
IsApartFrom g scan = (other : Grid) → scan.grid ≡ Some other → AreApart (bounds_of other) (bounds_of g)

-- the code was found by finder patterns, and its place has pixels in common with that of this grid
abbrev pub Overlaps : Grid → Scan → Type 0
Overlaps g scan = (other : Grid) × ((scan.grid ≡ Some other) × ¬ AreApart (bounds_of other) (bounds_of g))

-- the places of two codes that were found by finder patterns have no pixel in common; so no code is found twice
abbrev pub AreTwo : Scan → Scan → Type 0
AreTwo one other = (g : Grid) → other.grid ≡ Some g → IsApartFrom g one

-- the code is the one in this square of whole pixels
pub record IsCodeOf (w : Whole) (scan : Scan) : Type 0 where
  pub grid : Grid
  pub found : scan.grid ≡ Some grid
  pub place : IsGridOf w grid
  pub modules : scan.square.modules.items ≡ w.modules

-- the code is the one in this square; or it is in its way: it overlaps the square, or it has all dark pixels, since its margin is plain
abbrev pub IsFoundBy : Whole → Scan → Type 0
IsFoundBy w scan = IsCodeOf w scan ⊎ (((g : Grid) × (IsGridOf w g × Overlaps g scan)) ⊎ (scan.grid ≡ None))

-- each square of whole pixels that decodes is among the codes, or one of them is in its way; unless 1,024 grids have finder patterns
abbrev pub FindsWholes : Bitmap → List Scan → Type 0
FindsWholes b scans = (w : Whole) → ShowsCode b w → HasMany b ⊎ Any (IsFoundBy w) scans

-- the same of a picture
pub record FindsWholesOf (bytes : List ℕ) (scans : List Scan) : Type 0 where
  pub pixels : Bitmap
  pub is_inverted : Bool
  pub seen : IsSeenAs bytes pixels is_inverted
  pub found : FindsWholes pixels scans

pub record AreCodesIn (b : Bitmap) (is_inverted : Bool) (codes : Codes) : Type 0 where  -- each code, decoded or not, is one of these pixels; none is found twice
  pub scans : All (IsCodeIn b is_inverted) codes.scans.items
  pub once : AllPairs AreTwo codes.scans.items
  pub missed : All (IsMissedIn b) codes.missed.items
  pub told_once : AllPairs AreOther codes.missed.items

abbrev pub IsFoundAs : Bitmap → Bool → Found → Type 0  -- what a grid turns out to be
IsFoundAs b is_inverted Nothing = Unit
IsFoundAs b is_inverted (Code scan) = IsCodeIn b is_inverted scan
IsFoundAs b is_inverted (Missed m) = IsMissedIn b m

-- what a grid turns out to be says that it was found there
abbrev pub HasGrid : Grid → Found → Type 0
HasGrid g Nothing = Unit
HasGrid g (Code scan) = scan.grid ≡ Some g
HasGrid g (Missed m) = Unit

-- what the grid of a square turns out to be: the code in it
abbrev pub IsCodeFound : Whole → Found → Type 0
IsCodeFound w Nothing = ⊥
IsCodeFound w (Code scan) = IsCodeOf w scan
IsCodeFound w (Missed m) = ⊥
