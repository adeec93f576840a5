-- Segments: ranges of the data, each in a mode.
use Rattle.std.specs.Prelude.{◌≡◌, ℕ, ◌+◌, ◌-◌, ◌<◌, ◌≤◌, List, [], ◌∷◌, sum_by, ⊤}
use Rattle.std.specs.List.{AllByRecursion}
use Rattle.qrcode_types.specs.Modes.{mode_bits_count, length_bits_count, data_bits_count}
use Rattle.qrcode_types.specs.declared.types.Version.{Version}
use Rattle.qrcode_types.specs.declared.types.Mode.{Mode}
use Rattle.qrcode_types.specs.Characters.{character_count}
use Rattle.qrcode_bits.specs.declared.optimize.Segment.{Segment}

abbrev pub cost : Version → Segment → ℕ  -- the bits that a segment takes: mode indicator, length field, data bits
cost v s = mode_bits_count v + length_bits_count s.mode v + data_bits_count s.mode (character_count s.mode (s.end - s.begin))

abbrev pub cost_of : Version → Mode → ℕ → ℕ  -- the bits that a segment of `count` characters takes
cost_of v m count = mode_bits_count v + length_bits_count m v + data_bits_count m count

abbrev pub total_cost : Version → List Segment → ℕ  -- the bits that all segments take
total_cost v segments = sum_by (cost v) segments

-- the segments follow one another without gaps from one place to another, and none is empty
abbrev pub Tile : ℕ → List Segment → ℕ → Type 0
Tile from [] to = from ≡ to
Tile from (s ∷ segments) to = (s.begin ≡ from) × ((s.begin < s.end) × Tile s.end segments to)

abbrev pub AdjoinFrom : ℕ → List Segment → Type 0  -- each range begins where the one before ends; it may be empty
AdjoinFrom from [] = ⊤
AdjoinFrom from (s ∷ segments) = (s.begin ≡ from) × ((s.begin ≤ s.end) × AdjoinFrom s.end segments)

abbrev pub AreInside : ℕ → List Segment → Type 0  -- the ranges lie in data of n bytes
AreInside n segments = AllByRecursion (λ s. (s.begin ≤ s.end) × (s.end ≤ n)) segments
