-- Drawing bits along the walk, place by place.
use Rattle.std.specs.Prelude.{ℕ, ◌+◌, ◌-◌, ◌*◌, ◌%◌, ◌==◌, if◌then◌else◌, Bool, true, false, List, map, filter, drop, Option, Some, None, slice_index_or, slice_set}
use Rattle.std.specs.List.{range_with_len}
use Rattle.qrcode_types.specs.Colors.{color_of}
use Rattle.qrcode_types.specs.Versions.{side}
use Rattle.qrcode_types.specs.declared.types.Version.{Version}
use Rattle.qrcode_layout.specs.Stream.{zigzag_place, right_column}
use Rattle.qrcode_symbol.specs.Canvas.{is_empty, put_bits}
use Rattle.qrcode_symbol.specs.declared.canvas.Module.{Module}
use Rattle.qrcode_symbol.specs.declared.canvas.Module.TheVariants.{Empty, Unmasked}

-- the row of a step in a pair of columns: upwards in the first pair, then alternating
abbrev pub row_of_step : ℕ → ℕ → ℕ → ℕ
row_of_step width pair step = if pair % 2 == 0 then width - 1 - step else step

-- the t-th place of the walk as an index in row order
abbrev pub place_index : Version → ℕ → ℕ
place_index v t = (zigzag_place v t).1 * side v + (zigzag_place v t).0

-- the empty places from step t of the walk on
abbrev pub empty_from : Version → List Module → ℕ → List ℕ
empty_from v modules t = filter (λ i. is_empty (slice_index_or modules i Empty)) (map (place_index v) (range_with_len t (side v * (side v - 1) - t)))

-- the modules after bits are drawn in the empty places from step t on
unfoldable pub filled_from : Version → List Bool → List Module → ℕ → List Module
filled_from v bits modules t = put_bits (empty_from v modules t) bits modules

-- the bit, if there is one, is drawn at the index if the module there is empty
abbrev pub drawn_if : Bool → Option Bool → List Module → ℕ → List Module
drawn_if false bit modules index = modules
drawn_if true None modules index = modules
drawn_if true (Some b) modules index = slice_set modules index (Unmasked (color_of b))

-- the remaining bits, after one is drawn if the module is empty
abbrev pub left_if : Bool → List Bool → List Bool
left_if false bits = bits
left_if true bits = drop 1 bits

-- the module at the index is empty
abbrev pub is_empty_at : List Module → ℕ → Bool
is_empty_at modules index = is_empty (slice_index_or modules index Empty)

-- the index of the right module of a pair of columns in the row of a step
abbrev pub row_index : Version → ℕ → ℕ → ℕ
row_index v pair step = row_of_step (side v) pair step * side v + right_column v pair
