-- The items of an optimizer.
use Rattle.std.specs.Prelude.{◌≡◌, ◌+◌, false, true, Option, Some, None, MatchOption, List, ◌∷◌, IsTrue, Bool, ⊤}
use Rattle.std.specs.Iterator.{Count, at_most, count_map, IsFinite, HoldsAlong, YieldsThen}
use Rattle.qrcode_types.specs.Versions.{is_valid}
use Rattle.qrcode_types.specs.declared.types.Version.{Version}
use Rattle.qrcode_bits.specs.Grouping.{joint, is_joined, joint_of, is_group}
use Rattle.qrcode_bits.specs.Groups.{IsJoinable}
use Rattle.qrcode_bits.specs.declared.optimize.Segment.{Segment}
use Rattle.qrcode_bits.specs.declared.optimize.groups.Optimizer.{Optimizer}

abbrev pub joint_if : Bool → Segment → Segment → Option Segment  -- two segments as one, if they are joined
joint_if true a b = Some (joint a b)
joint_if false a b = None

abbrev pub left_after : Option Segment → Count → Count  -- a group that has begun counts as one more
left_after None c = at_most 0
left_after (Some s) c = count_map (λ n. n + 1) c

-- an optimizer returns at most as many groups as segments are left, and one that has begun
abbrev pub groups_left : {S : Type 0} → (S → Count) → Optimizer S → Count
groups_left left o = left_after o.last (left o.segments)

abbrev pub StopsBefore : Version → Segment → Option Segment → Type 0  -- the next segment does not join the group
StopsBefore v g None = ⊤
StopsBefore v g (Some s) = is_joined v g s ≡ false

module _ {S : Type 0} (steps : S → Option Segment → S → Type 0) where
  -- the segments that an optimizer has left can be grouped
  abbrev pub CanGroup : (S → Type 0) → (S → Count) → Optimizer S → Type 0
  CanGroup can left o = MatchOption o.last ⊤ (λ s. IsTrue (is_valid o.version) × (can o.segments × (IsFinite (left o.segments) × HoldsAlong steps o.segments (λ xs. IsJoinable (s ∷ xs)))))

  -- a call took further segments, each of which joined the group, up to one that does not join, or to the end
  pub record TakesGroup (o : Optimizer S) (group : Segment) (t : Optimizer S) : Type 0 where
    pub first : Segment
    pub further : List Segment
    pub was : o.last ≡ Some first
    pub came : YieldsThen steps o.segments further t.last t.segments
    pub joined : is_group o.version first further ≡ true
    pub is : group ≡ joint_of first further
    pub stops : StopsBefore o.version group t.last
    pub version : t.version ≡ o.version

  -- a call returns a group, or there is none left
  abbrev pub GroupsStep : Optimizer S → Option Segment → Optimizer S → Type 0
  GroupsStep o r t = MatchOption r ((o.last ≡ None) × (t.last ≡ None)) (λ g. TakesGroup o g t)
