-- Theorems about places.
use Rattle.std.specs.Prelude.{◌≡◌, ◌≢◌, ℕ, ◌-◌, ◌*◌, ◌<◌, List, [], ◌++◌, length, slice_index_or, Some, None, IsTrue, false}
use Rattle.std.specs.List.{list_all, AllByRecursion, AllPairs, Contains}
use Rattle.qrcode_types.specs.Versions.{is_valid, side}
use Rattle.qrcode_types.specs.declared.types.Version.{Version}
use Rattle.qrcode_types.specs.declared.types.Version.TheVariants.{Normal, Micro}
use Rattle.qrcode_types.specs.Colors.{color_of}
use Rattle.qrcode_layout.specs.declared.figures.Figure.{Figure}
use Rattle.qrcode_layout.specs.Figures.{has, is_dark_in, figures, format_figures, fits}
use Rattle.qrcode_layout.specs.Patterns.{pattern, format_copies, format_index, is_functional_place}
use Rattle.qrcode_layout.specs.Stream.{zigzag_place, free_places}

abbrev pub IsInside : Version → ℕ → ℕ → Type 0  -- the column and the row are inside the square
IsInside v x y = (x < side v) × (y < side v)

abbrev pub FormatPlacesAreNoPatterns : Type 0  -- no pattern covers a place of the format word
FormatPlacesAreNoPatterns =
    (v : Version) (x y i : ℕ) → IsTrue (is_valid v) → format_index v x y ≡ Some i → pattern v x y ≡ None

abbrev pub FiguresFit : Type 0  -- each figure lies inside the symbol
FiguresFit = (v : Version) → IsTrue (is_valid v) → IsTrue (list_all (fits v) (format_figures v ++ figures v))

-- every figure that covers a place gives it the colour of the pattern, so where two figures overlap they agree
abbrev pub FiguresAgree : Type 0
FiguresAgree =
    (v : Version) (f : Figure) (x y : ℕ) → IsTrue (is_valid v) → Contains (figures v) f → IsTrue (has f x y)
    → pattern v x y ≡ Some (color_of (is_dark_in v f x y))

-- fifteen places in the square; the i-th holds bit i of the format word
pub record IsFormatCopy (v : Version) (places : List (ℕ × ℕ)) : Type 0 where
  pub count : length places ≡ 15
  pub inside : (i : ℕ) → i < 15 → let p = slice_index_or places i (0, 0) in IsInside v p.0 p.1
  pub index :
      (i : ℕ) → i < 15 → let p = slice_index_or places i (0, 0) in format_index v p.0 p.1 ≡ Some i

abbrev pub FormatCopiesAreIndexed : Type 0  -- each copy of the format word has its bits in order
FormatCopiesAreIndexed = (v : Version) → IsTrue (is_valid v) → AllByRecursion (IsFormatCopy v) (format_copies v)

abbrev pub FormatPlacesAreInCopies : Type 0  -- a place of bit i of the format word is the i-th place of some copy
FormatPlacesAreInCopies =
    (v : Version) (x y i : ℕ) → IsTrue (is_valid v) → format_index v x y ≡ Some i
    → (i < 15) × ((copy : ℕ) × ((copy < length (format_copies v))
    × (slice_index_or (slice_index_or (format_copies v) copy []) i (0, 0) ≡ (x, y))))

abbrev pub left_out : Version → ℕ  -- the column that the walk skips
left_out (Normal v) = 6
left_out (Micro v) = 0

abbrev pub WalkIsInside : Type 0  -- the walk stays inside the square
WalkIsInside =
    (v : Version) (t : ℕ) → IsTrue (is_valid v) → t < side v * (side v - 1)
    → IsInside v (zigzag_place v t).0 (zigzag_place v t).1

abbrev pub WalkIsApart : Type 0  -- the walk visits no place twice
WalkIsApart =
    (v : Version) (s t : ℕ) → IsTrue (is_valid v) → s < side v * (side v - 1)
    → t < side v * (side v - 1) → zigzag_place v s ≡ zigzag_place v t → s ≡ t

abbrev pub WalkIsWhole : Type 0  -- the walk visits every place of the other columns
WalkIsWhole =
    (v : Version) (x y : ℕ) → IsTrue (is_valid v) → IsInside v x y → x ≢ left_out v
    → (t : ℕ) × ((t < side v * (side v - 1)) × (zigzag_place v t ≡ (x, y)))

abbrev pub LeftOutIsFunctional : Type 0  -- no place of the skipped column is free
LeftOutIsFunctional =
    (v : Version) (y : ℕ) → IsTrue (is_valid v) → y < side v → IsTrue (is_functional_place v (left_out v) y)

abbrev pub FreePlacesAreApart : Type 0  -- the list of free places has each place only once
FreePlacesAreApart = (v : Version) → IsTrue (is_valid v) → AllPairs (λ p q. p ≢ q) (free_places v)

abbrev pub FreePlacesAreWhole : Type 0  -- the list of free places has all of them
FreePlacesAreWhole =
    (v : Version) (x y : ℕ) → IsTrue (is_valid v) → IsInside v x y
    → is_functional_place v x y ≡ false → Contains (free_places v) (x, y)
