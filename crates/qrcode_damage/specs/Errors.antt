-- Which modules of a symbol are wrong.
use Rattle.std.specs.Prelude.{◌≡◌, ◌<◌, ◌+◌, ◌-◌, ◌*◌, ◌/◌, ◌%◌, ◌==◌, nat_lt, nat_le, ◌&&◌, ◌||◌, ℕ, Bool, true, false, not, List, length, map, Option, Some, None, slice_index, slice_index_or, if◌then◌else◌}
use Rattle.std.specs.List.{range_with_len}
use Rattle.qrcode_types.specs.Colors.{is_dark, opposite}
use Rattle.qrcode_types.specs.Versions.{side, block_lengths}
use Rattle.qrcode_types.specs.declared.types.Version.{Version}
use Rattle.qrcode_types.specs.declared.types.EcLevel.{EcLevel}
use Rattle.qrcode_types.specs.declared.types.Color.{Color}
use Rattle.qrcode_types.specs.declared.types.Color.TheVariants.{Light}
use Rattle.qrcode_ec.specs.Blocks.{block}
use Rattle.qrcode_layout.specs.Masks.{turns, turned_if, nth_mask}
use Rattle.qrcode_layout.specs.Patterns.{format_index, is_functional_place}
use Rattle.qrcode_layout.specs.Stream.{color_at}
use Rattle.qrcode_symbol.specs.Symbol.{Carries}
use Rattle.qrcode_damage.specs.Damage.{is_pattern_place}
use Rattle.qrcode_damage.specs.Flips.{count_wrong}
use Rattle.qrcode_damage.specs.declared.damage.Damage.{Damage}
use Rattle.qrcode_damage.specs.declared.errors.Errors.{Errors}

abbrev pub is_set : List ℕ → ℕ → Bool  -- byte i is not zero
is_set bytes i = not (slice_index bytes i == 0)

-- whether a place of the version word is wrong, in a symbol with w modules along a side
abbrev pub is_version_wrong : Errors → ℕ → ℕ → ℕ → Bool
is_version_wrong e w x y =
    if nat_lt w 45 then false
    else (if nat_lt y 6 && nat_le (w - 11) x && nat_lt x (w - 8) then is_set e.first_version.items (3 * y + (x - (w - 11)))
    else (if nat_lt x 6 && nat_le (w - 11) y && nat_lt y (w - 8) then is_set e.last_version.items (3 * x + (y - (w - 11))) else false))

-- whether bit i of the format word is wrong in the copy that has this place
abbrev pub is_format_wrong : Errors → ℕ → ℕ → ℕ → Bool
is_format_wrong e i x y = is_set (if nat_le x 8 && nat_le y 8 then e.first_format.items else e.last_format.items) i

abbrev pub is_pattern_wrong : Errors → ℕ → ℕ → ℕ → Bool  -- whether a place of a pattern is wrong
is_pattern_wrong e w x y = is_set e.patterns.items (y * w + x)

-- whether a free place is wrong: its bit in the square of the wrong codewords is 1
abbrev pub is_free_wrong : Version → Errors → ℕ → ℕ → Bool
is_free_wrong v e x y = turned_if (turns (nth_mask v 0) x y) (is_dark (color_at v e.codewords.items x y))

-- the same by the format word's bit at this place, if any
abbrev pub is_wrong_by_bit : Version → Errors → ℕ → ℕ → Option ℕ → Bool
is_wrong_by_bit v e x y (Some i) = is_format_wrong e i x y
is_wrong_by_bit v e x y None =
    if is_functional_place v x y then is_pattern_wrong e (side v) x y || is_version_wrong e (side v) x y else is_free_wrong v e x y

unfoldable pub is_wrong : Version → Errors → ℕ → ℕ → Bool  -- whether the module in column x and row y is wrong
is_wrong v e x y = is_wrong_by_bit v e x y (format_index v x y)

abbrev pub opposite_if : Bool → Color → Color
opposite_if true color = opposite color
opposite_if false color = color

-- module i, counted row by row, reversed where it is wrong
abbrev pub flipped_module : ℕ → (ℕ → ℕ → Bool) → List Color → ℕ → Color
flipped_module width wrong s i = opposite_if (wrong (i % width) (i / width)) (slice_index_or s i Light)

-- the first `count` of these modules
unfoldable pub flipped : ℕ → (ℕ → ℕ → Bool) → List Color → ℕ → List Color
flipped width wrong s count = map (flipped_module width wrong s) (range_with_len 0 count)

-- so many bytes, and so many of them not zero
pub record HasWrong (size count : ℕ) (bytes : List ℕ) : Type 0 where
  pub long : length bytes ≡ size
  pub wrong : count_wrong bytes ≡ count

-- a byte for each module, row by row: so many are not zero, and none of those outside of the patterns
pub record IsInPatterns (v : Version) (count : ℕ) (bytes : List ℕ) : Type 0 where
  pub all : HasWrong (side v * side v) count bytes
  pub others : (i : ℕ) → is_pattern_place v (i % side v) (i / side v) ≡ false → is_set bytes i ≡ false

-- exactly what the damage says: in each block so many codewords, in each word so many bits, and in the patterns so many modules
pub record AreErrors (v : Version) (l : EcLevel) (d : Damage) (e : Errors) : Type 0 where
  pub words : List ℕ
  pub codewords : (b : ℕ) → b < length (block_lengths v l) → count_wrong (block v l words b) ≡ d.codewords
  pub drawn : Carries v l words (nth_mask v 0) e.codewords.items
  pub first_format : HasWrong 15 d.format_bits e.first_format.items
  pub last_format : HasWrong 15 d.format_bits e.last_format.items
  pub first_version : HasWrong 18 d.version_bits e.first_version.items
  pub last_version : HasWrong 18 d.version_bits e.last_version.items
  pub patterns : IsInPatterns v d.pattern_modules e.patterns.items
