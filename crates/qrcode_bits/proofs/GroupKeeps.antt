-- A grouping keeps the range, and takes no more bits.
use Rattle.std.proofs.Common.{ℕ, ◌+◌, ◌≤◌, List, [], ◌∷◌, ◌++◌, refl, arith}
use Rattle.std.proofs.lemmas.Bool.{leb-true}
use Rattle.std.proofs.lemmas.List.Sums.{sum_by-cons}
use Rattle.std.specs.List.{AllByRecursion}
use Rattle.qrcode_types.specs.declared.types.Version.{Version}
use Rattle.qrcode_bits.specs.declared.optimize.Segment.{Segment}
use Rattle.qrcode_bits.specs.Segments.{Tile, AreInside, cost, total_cost}
use Rattle.qrcode_bits.specs.Grouping.{joint, joint_of, is_joined, grouping_from, grouping}
use Rattle.qrcode_bits.specs.Groups.{range_limit, IsJoinable, Reach, AreGroups}
use Rattle.qrcode_bits.proofs.GroupingLaws.{by_test, grouping_is, grouping-only}

tile_kept : (v : Version) (s : Segment) (xs : List Segment) (from to : ℕ) → Tile from (s ∷ xs) to → Tile from (grouping_from v s xs) to
tile_kept v s [] from to t = t
tile_kept v s (x ∷ xs) from to t =
    by_test (λ gs. Tile from gs to) (is_joined v s x) (grouping_from v (joint s x) xs) (s ∷ grouping_from v x xs)
    (λ _. tile_kept v (joint s x) xs from to (t.0, (omega (arith, t.1.0, t.1.1.0, t.1.1.1.0), t.1.1.1.1)))
    (λ _. (t.0, (t.1.0, tile_kept v x xs s.end to t.1.1)))

reach_kept : (v : Version) (s : Segment) (xs : List Segment) (from to : ℕ) → Reach from (s ∷ xs) to → Reach from (grouping_from v s xs) to
reach_kept v s [] from to t = t
reach_kept v s (x ∷ xs) from to t =
    by_test (λ gs. Reach from gs to) (is_joined v s x) (grouping_from v (joint s x) xs) (s ∷ grouping_from v x xs)
    (λ _. reach_kept v (joint s x) xs from to (t.0, (omega (arith, t.1.0, t.1.1.0, t.1.1.1.0), t.1.1.1.1)))
    (λ _. (t.0, (t.1.0, reach_kept v x xs s.end to t.1.1)))

cost_kept : (v : Version) (s : Segment) (xs : List Segment) → total_cost v (grouping_from v s xs) ≤ cost v s + total_cost v xs
cost_kept v s [] = omega (arith, sum_by-cons (cost v) s [])
cost_kept v s (x ∷ xs) =
    by_test (λ gs. total_cost v gs ≤ cost v s + total_cost v (x ∷ xs)) (is_joined v s x) (grouping_from v (joint s x) xs) (s ∷ grouping_from v x xs)
    (λ e. omega (arith, sum_by-cons (cost v) x xs, leb-true (cost v (joint s x)) (cost v s + cost v x) e, cost_kept v (joint s x) xs))
    (λ _. omega (arith, sum_by-cons (cost v) x xs, sum_by-cons (cost v) s (grouping_from v x xs), cost_kept v x xs))

pub groups_are : (v : Version) (xs : List Segment) → AreGroups v xs (grouping v xs)
groups_are v [] = record { are = refl; joined = grouping_is v []; only = grouping-only v []; reach = λ from to r. r; tile = λ from to t. t; no_longer = omega arith }
groups_are v (s ∷ xs) = record {
  are = refl;
  joined = grouping_is v (s ∷ xs);
  only = grouping-only v (s ∷ xs);
  reach = reach_kept v s xs;
  tile = tile_kept v s xs;
  no_longer = omega (arith, sum_by-cons (cost v) s xs, cost_kept v s xs);
}

-- the part of a group, and what may still be joined to it
pub joinable-joint : (s x : Segment) (xs : List Segment) → IsJoinable (s ∷ x ∷ xs) → IsJoinable (joint s x ∷ xs)
joinable-joint s x xs h = ((refl, (omega (arith, h.0.1.0, h.0.1.1.0, h.0.1.1.1.0), h.0.1.1.1.1)), h.1.1)

later : (a b : ℕ) (xs : List Segment) → a ≤ b → AllByRecursion (λ x. x.end ≤ a + range_limit) xs → AllByRecursion (λ x. x.end ≤ b + range_limit) xs
later a b [] le h = tt
later a b (x ∷ xs) le h = (omega (arith, le, h.0), later a b xs le h.1)

pub joinable-next : (s x : Segment) (xs : List Segment) → IsJoinable (s ∷ x ∷ xs) → IsJoinable (x ∷ xs)
joinable-next s x xs h = ((refl, h.0.1.1.1), later s.begin x.begin (x ∷ xs) (omega (arith, h.0.1.0, h.0.1.1.0)) h.1.1)

pub joinable-last : (s y : Segment) (xs ys : List Segment) → IsJoinable (s ∷ (xs ++ y ∷ ys)) → IsJoinable (y ∷ ys)
joinable-last s y [] ys h = joinable-next s y ys h
joinable-last s y (x ∷ xs) ys h = joinable-last x y xs ys (joinable-next s x (xs ++ y ∷ ys) h)

pub inside-last : (n : ℕ) (s y : Segment) (xs ys : List Segment) → AreInside n (s ∷ (xs ++ y ∷ ys)) → AreInside n (y ∷ ys)
inside-last n s y [] ys h = h.1
inside-last n s y (x ∷ xs) ys h = inside-last n x y xs ys h.1

pub joint-inside : (n : ℕ) (s : Segment) (xs : List Segment) → IsJoinable (s ∷ xs) → AreInside n (s ∷ xs) → ((joint_of s xs).begin ≤ (joint_of s xs).end) × ((joint_of s xs).end ≤ n)
joint-inside n s [] c h = h.0
joint-inside n s (x ∷ xs) c h = joint-inside n (joint s x) xs (joinable-joint s x xs c) ((omega (arith, h.0.0, c.0.1.1.0, h.1.0.0), h.1.0.1), h.1.1)
