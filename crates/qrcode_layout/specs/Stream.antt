-- The order in which the free places hold the bits of a symbol.
use Rattle.std.specs.Prelude.{◌≡◌, ℕ, ◌+◌, ◌-◌, ◌*◌, ◌/◌, ◌%◌, ◌==◌, nat_le, ◌&&◌, not, Bool, List, map, filter, length, slice_index_or, IsTrue, if◌then◌else◌}
use Rattle.std.specs.List.{range_with_len}
use Rattle.qrcode_types.specs.Colors.{is_dark}
use Rattle.qrcode_types.specs.Versions.{side, is_micro, has_level, capacity, total_ec_length, remainder_bits}
use Rattle.qrcode_types.specs.declared.types.Version.{Version}
use Rattle.qrcode_types.specs.declared.types.EcLevel.{EcLevel}
use Rattle.qrcode_types.specs.declared.types.Color.{Color}
use Rattle.qrcode_types.specs.declared.types.Color.TheVariants.{Light}
use Rattle.qrcode_layout.specs.Masks.{turns, turned_if}
use Rattle.qrcode_layout.specs.Patterns.{is_functional_place}
use Rattle.qrcode_layout.specs.declared.masks.MaskPattern.{MaskPattern}

abbrev pub color_at : Version → List Color → ℕ → ℕ → Color  -- the colour in column x and row y; the colours are in row order
color_at v s x y = slice_index_or s (y * side v + x) Light

abbrev pub right_column : Version → ℕ → ℕ  -- the right column of a pair; the columns of vertical timing patterns, 6 and in Micro 0, are skipped
right_column v pair = let column = side v - 1 - 2 * pair in if not (is_micro v) && nat_le column 6 then column - 1 else column

-- the t-th place (column, row) of the walk: through pairs of columns from the right, alternately up and down, the right module of each row first
unfoldable pub zigzag_place : Version → ℕ → ℕ × ℕ
zigzag_place v t =
    let w = side v in let pair = t / (2 * w) in let step = t % (2 * w) in
    (right_column v pair - step % 2, if pair % 2 == 0 then w - 1 - step / 2 else step / 2)

unfoldable pub zigzag : Version → List (ℕ × ℕ)  -- all places except those of the skipped column
zigzag v = map (zigzag_place v) (range_with_len 0 (side v * (side v - 1)))

unfoldable pub free_places : Version → List (ℕ × ℕ)  -- the places that no pattern and no format word covers, in the order of the walk
free_places v = filter (λ p. not (is_functional_place v p.0 p.1)) (zigzag v)

-- the bits at the free places: 1 for a dark module, reversed where the mask reverses
unfoldable pub stream : Version → MaskPattern → List Color → List Bool
stream v mask s = map (λ p. turned_if (turns mask p.0 p.1) (is_dark (color_at v s p.0 p.1))) (free_places v)

-- a version's free places are exactly as many as its data bits, error correction bits and remainder bits, at each of its levels
abbrev pub FreePlacesAreFilled : Type 0
FreePlacesAreFilled =
    (v : Version) (l : EcLevel) → IsTrue (has_level v l)
    → length (free_places v) ≡ capacity v l + 8 * total_ec_length v l + remainder_bits v
