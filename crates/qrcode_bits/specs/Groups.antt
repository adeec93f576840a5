-- Which segments can be grouped, and what holds for the groups.
use Rattle.std.specs.Prelude.{◌≡◌, ℕ, ◌+◌, ◌≤◌, List, [], ◌∷◌, ⊤}
use Rattle.std.specs.List.{AllByRecursion}
use Rattle.qrcode_types.specs.declared.types.Version.{Version}
use Rattle.qrcode_bits.specs.Segments.{Tile, AdjoinFrom, total_cost}
use Rattle.qrcode_bits.specs.Grouping.{IsGrouping, grouping}
use Rattle.qrcode_bits.specs.declared.optimize.Segment.{Segment}

abbrev pub range_limit : ℕ  -- the largest number of bytes in a range
range_limit = 134217728

-- each segment begins where the one before ends, none ends before it begins, and together their range is within the limit
abbrev pub IsJoinable : List Segment → Type 0
IsJoinable [] = ⊤
IsJoinable (s ∷ segments) = AdjoinFrom s.begin (s ∷ segments) × AllByRecursion (λ x. x.end ≤ s.begin + range_limit) (s ∷ segments)

abbrev pub Reach : ℕ → List Segment → ℕ → Type 0  -- the segments follow one another without gaps from one place to another; they may be empty
Reach from [] to = from ≡ to
Reach from (s ∷ segments) to = (s.begin ≡ from) × ((s.begin ≤ s.end) × Reach s.end segments to)

-- the groups are those of the segments in the version, and no others; they have the same range, and take no more bits
pub record AreGroups (v : Version) (segments groups : List Segment) : Type 0 where
  pub are : groups ≡ grouping v segments
  pub joined : IsGrouping v segments groups
  pub only : (others : List Segment) → IsGrouping v segments others → others ≡ groups
  pub reach : (from to : ℕ) → Reach from segments to → Reach from groups to
  pub tile : (from to : ℕ) → Tile from segments to → Tile from groups to
  pub no_longer : total_cost v groups ≤ total_cost v segments
