-- The masks (ISO/IEC 18004:2006, table 10).
use Rattle.std.specs.Prelude.{ℕ, ℤ, pos, List, [], ◌∷◌, length, slice_index_or, ◌+ℤ◌, nat_abs, ◌+◌, ◌*◌, ◌/◌, ◌%◌, ◌==◌, nat_lt, ◌&&◌, ◌||◌, not, Bool, true, false}
use Rattle.std.specs.List.{position_or_len}
use Rattle.qrcode_types.specs.Versions.{is_valid, is_micro}
use Rattle.qrcode_types.specs.declared.types.Version.{Version}
use Rattle.qrcode_types.specs.declared.types.Version.TheVariants.{Normal, Micro}
use Rattle.qrcode_layout.specs.declared.masks.MaskPattern.{MaskPattern}
use Rattle.qrcode_layout.specs.declared.masks.MaskPattern.TheVariants.{Checkerboard, HorizontalLines, VerticalLines, DiagonalLines, LargeCheckerboard, Fields, Diamonds, Meadow}

abbrev pub turns : MaskPattern → ℕ → ℕ → Bool  -- the mask reverses the module in column x and row y
turns Checkerboard x y = (x + y) % 2 == 0
turns HorizontalLines x y = y % 2 == 0
turns VerticalLines x y = x % 3 == 0
turns DiagonalLines x y = (x + y) % 3 == 0
turns LargeCheckerboard x y = (y / 2 + x / 3) % 2 == 0
turns Fields x y = (x * y) % 2 + (x * y) % 3 == 0
turns Diamonds x y = ((x * y) % 2 + (x * y) % 3) % 2 == 0
turns Meadow x y = ((x + y) % 2 + (x * y) % 3) % 2 == 0

-- the formulas for coordinates of any sign; the signs matter only for the diagonal lines
abbrev pub turns_at : MaskPattern → ℤ → ℤ → Bool
turns_at DiagonalLines x y = nat_abs (x +ℤ y) % 3 == 0
turns_at mask x y = turns mask (nat_abs x) (nat_abs y)

abbrev pub mask_number : MaskPattern → ℕ  -- the number of the mask in the standard, 0 to 7
mask_number Checkerboard = 0
mask_number HorizontalLines = 1
mask_number VerticalLines = 2
mask_number DiagonalLines = 3
mask_number LargeCheckerboard = 4
mask_number Fields = 5
mask_number Diamonds = 6
mask_number Meadow = 7

abbrev pub masks_of : Version → List MaskPattern  -- the masks of the version, in the order of their numbers
masks_of (Normal v) = Checkerboard ∷ HorizontalLines ∷ VerticalLines ∷ DiagonalLines ∷ LargeCheckerboard ∷ Fields ∷ Diamonds ∷ Meadow ∷ []
masks_of (Micro v) = HorizontalLines ∷ LargeCheckerboard ∷ Diamonds ∷ Meadow ∷ []

abbrev pub mask_count : Version → ℕ  -- the number of masks that the version has
mask_count v = length (masks_of v)

abbrev pub nth_mask : Version → ℕ → MaskPattern  -- the mask of the version with this number
nth_mask v number = slice_index_or (masks_of v) number Checkerboard

abbrev pub micro_mask_number : MaskPattern → ℕ  -- the mask's place in the list of Micro, or 4 if Micro lacks it
micro_mask_number mask = position_or_len (λ other. mask_number other == mask_number mask) (masks_of (Micro (pos 1)))

abbrev pub exists_in : Version → MaskPattern → Bool  -- the version exists and has the mask: Normal has all eight, Micro four
exists_in v mask = is_valid v && (not (is_micro v) || nat_lt (micro_mask_number mask) 4)

abbrev pub turned_if : Bool → Bool → Bool  -- a module's bit, reversed if the mask reverses it
turned_if true b = not b
turned_if false b = b
