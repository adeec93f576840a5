-- The penalty by other readings of the standard (6.8.3.1), whose words on what looks like a finder pattern leave two things open: whether places
-- outside the symbol count as light, and whether the first and the last dark run of the form may be longer than one module.
use Rattle.std.specs.Prelude.{ℕ, ◌+◌, ◌-◌, ◌*◌, nat_lt, nat_le, ◌==◌, ◌&&◌, ◌||◌, not, Bool, true, false, List, length, take, drop, slice_index_or, if◌then◌else◌}
use Rattle.qrcode_types.specs.Versions.{side}
use Rattle.qrcode_types.specs.declared.types.Color.{Color}
use Rattle.qrcode_types.specs.declared.types.Color.TheVariants.{Light}
use Rattle.qrcode_types.specs.declared.types.Version.{Version}
use Rattle.qrcode_types.specs.declared.types.Version.TheVariants.{Normal, Micro}
use Rattle.qrcode_types.specs.declared.types.EcLevel.{EcLevel}
use Rattle.qrcode_types.specs.Colors.{is_dark}
use Rattle.qrcode_layout.specs.declared.masks.MaskPattern.{MaskPattern}
use Rattle.qrcode_penalty.specs.Penalty.{sum_below, count_if, is_finder_like}
use Rattle.qrcode_symbol.specs.Penalties.{penalty}
use Rattle.qrcode_reader.specs.Positions.{seen}
use Rattle.qrcode_reader.specs.declared.positions.Position.TheVariants.{Transposed}
use Rattle.qrcode_check.specs.Masks.{penalties, mask_place, stepped_penalty, IsRank}
use Rattle.qrcode_check.specs.declared.masks.Penalty.{Penalty}
use Rattle.qrcode_check.specs.declared.masks.Penalty.TheVariants.{Own, Stepped, By}
use Rattle.qrcode_check.specs.declared.masks.Rank.{Rank}
use Rattle.qrcode_check.specs.declared.forms.FormReading.{FormReading}

abbrev pub dark_on_line : List Color → ℕ → Bool  -- whether place i of a line is dark; no place after it is
dark_on_line line i = is_dark (slice_index_or line i Light)

-- whether place k, counted from four places before the line, is light
abbrev pub is_light : FormReading → List Color → ℕ → Bool
is_light r line k = if nat_lt k 4 || nat_le (length line + 4) k then r.light_outside else not (dark_on_line line (k - 4))

abbrev pub are_light : FormReading → List Color → ℕ → Bool  -- this place and the next three are light
are_light r line k = is_light r line k && is_light r line (k + 1) && is_light r line (k + 2) && is_light r line (k + 3)

-- the first and the last dark run of a form at place i have one module
abbrev pub has_short_ends : List Color → ℕ → Bool
has_short_ends line i = (i == 0 || not (dark_on_line line (i - 1))) && not (dark_on_line line (i + 7))

-- a finder form at place i counts: four light places come before or after it, and its ends are short if they have to be
abbrev pub counts_at : FormReading → List Color → ℕ → Bool
counts_at r line i =
    is_finder_like (dark_on_line line) i && (are_light r line i || are_light r line (i + 11)) && (r.long_runs || has_short_ends line i)

unfoldable pub line_forms : FormReading → List Color → ℕ  -- 40 for each form in a line
line_forms r line = sum_below (length line - 6) (λ i. count_if (counts_at r line i) 40)

abbrev pub square_row : ℕ → List Color → ℕ → List Color  -- a row of a square of side w
square_row w s y = take w (drop (y * w) s)

unfoldable pub row_forms : FormReading → ℕ → List Color → ℕ  -- the same in all rows
row_forms r w s = sum_below w (λ y. line_forms r (square_row w s y))

abbrev pub forms : FormReading → ℕ → List Color → ℕ  -- the same in all rows and columns
forms r w s = row_forms r w s + row_forms r w (seen w Transposed false s)

abbrev pub reading : Bool → Bool → FormReading
reading light_outside long_runs = record { light_outside = light_outside; long_runs = long_runs }

abbrev pub own_reading : FormReading  -- the reading of `QrCode`
own_reading = reading true true

abbrev pub narrow : FormReading  -- ends are short
narrow = reading true false

abbrev pub inside : FormReading  -- the light places lie inside the symbol
inside = reading false true

abbrev pub narrow_inside : FormReading  -- both
narrow_inside = reading false false

-- the standard's penalty by another reading; Micro has no such forms
abbrev pub read_penalty : FormReading → Version → List Color → ℕ
read_penalty r (Normal n) s = stepped_penalty (Normal n) s - forms own_reading (side (Normal n)) s + forms r (side (Normal n)) s
read_penalty r (Micro n) s = stepped_penalty (Micro n) s

abbrev pub counted : Penalty → Version → List Color → ℕ  -- the penalty that is counted so
counted Own = penalty
counted Stepped = stepped_penalty
counted (By r) = read_penalty r

-- the rank of the mask of a square by this penalty
abbrev pub IsReadRank : FormReading → Version → EcLevel → MaskPattern → List Color → Rank → Type 0
IsReadRank r v l k s rank = IsRank (penalties (read_penalty r) v l k s) (mask_place v k) rank
