-- How neighbouring segments are joined.
use Rattle.std.specs.Prelude.{◌≡◌, ◌+◌, nat_le, ◌&&◌, not, Bool, true, false, List, [], ◌∷◌, map, flat_map, IsTrue}
use Rattle.qrcode_types.specs.Modes.{mode_max}
use Rattle.qrcode_types.specs.declared.types.Version.{Version}
use Rattle.qrcode_bits.specs.Segments.{cost}
use Rattle.qrcode_bits.specs.declared.optimize.Segment.{Segment}

abbrev pub joint : Segment → Segment → Segment  -- two adjoining segments as one
joint a b = record { mode = mode_max a.mode b.mode; begin = a.begin; end = b.end }

abbrev pub is_joined : Version → Segment → Segment → Bool  -- the joint segment takes no more bits than both apart
is_joined v a b = nat_le (cost v (joint a b)) (cost v a + cost v b)

pub record Group : Type 0 where  -- a segment, and those that joined it one after the other
  pub first : Segment
  pub further : List Segment

abbrev pub joint_of : Segment → List Segment → Segment  -- a segment and further ones as one
joint_of a [] = a
joint_of a (s ∷ further) = joint_of (joint a s) further

abbrev pub is_group : Version → Segment → List Segment → Bool  -- each further segment joined those before it
is_group v a [] = true
is_group v a (s ∷ further) = is_joined v a s && is_group v (joint a s) further

abbrev pub ends_before : Version → Segment → List Group → Bool  -- the first segment of the next group did not join
ends_before v a [] = true
ends_before v a (g ∷ groups) = not (is_joined v a g.first)

-- within each group every further segment joined, and the first of the next group did not
abbrev pub are_groups : Version → List Group → Bool
are_groups v [] = true
are_groups v (g ∷ groups) = is_group v g.first g.further && ends_before v (joint_of g.first g.further) groups && are_groups v groups

-- The joints are those of a division of the segments into groups: within a group each further segment joined those before
-- it, and between two groups the joint would take more bits than both apart.
pub record IsGrouping (v : Version) (segments joints : List Segment) : Type 0 where
  pub groups : List Group
  pub cut : flat_map (λ g. g.first ∷ g.further) groups ≡ segments
  pub joined : map (λ g. joint_of g.first g.further) groups ≡ joints
  pub holds : IsTrue (are_groups v groups)

-- the grouping, as `IsGrouping` describes it, that goes on from a begun group
abbrev pub grouping_from : Version → Segment → List Segment → List Segment
grouping_from v a [] = a ∷ []
grouping_from v a (s ∷ segments) = elim (is_joined v a s) [ true ↦ grouping_from v (joint a s) segments | false ↦ a ∷ grouping_from v s segments ]

-- the grouping of all segments, which goes on from the first
abbrev pub grouping : Version → List Segment → List Segment
grouping v [] = []
grouping v (s ∷ segments) = grouping_from v s segments
