-- The items of an iterator, so far, are the first of those that it had left.
use Rattle.std.proofs.Common.{◌≡◌, ℕ, ◌+◌, ◌≤◌, List, [], ◌∷◌, ◌++◌, refl, sym, ◌∙◌, ap, subst, arith}
use Rattle.std.specs.List.{AllByRecursion}
use Rattle.std.specs.Iterator.{Yields, YieldsFirst, Drains, HoldsAlong}
use Rattle.std.proofs.lemmas.List.{append-nil}
use Rattle.qrcode_bits.specs.declared.optimize.Segment.{Segment}
use Rattle.qrcode_bits.specs.declared.optimize.runs.Parser.{Parser}
use Rattle.qrcode_bits.specs.RunsLeft.{runs_left, data_end, data_left}
use Rattle.qrcode_bits.specs.Segments.{Tile, AdjoinFrom, AreInside}
use Rattle.qrcode_bits.specs.Groups.{range_limit, IsJoinable}
use Rattle.qrcode_bits.proofs.SegmentRanges.{tile_le}
use Rattle.qrcode_bits.proofs.RunLaws.{runs-tile}

module _ {S A : Type 0} (rest : S → List A) where
  -- the items so far are the first of those that were left
  pub front : (s t : S) (xs : List A) → Yields (YieldsFirst rest) s xs t → rest s ≡ xs ++ rest t
  front s t [] y = ap rest y
  front s t (x ∷ xs) (j, st, y) = st ∙ ap (λ l. x ∷ l) (front j t xs y)

  -- all items are those that were left
  pub whole : (s : S) (xs : List A) → Drains (YieldsFirst rest) s xs → xs ≡ rest s
  whole s xs (u, (t, y, over)) = sym (front s t xs y ∙ (ap (λ l. xs ++ l) over.0 ∙ append-nil xs))

  -- a property of the first items, however many, holds after each call
  pub along-fronts : (P : List A → Type 0) (s : S) → ((xs ys : List A) → rest s ≡ xs ++ ys → P xs) → HoldsAlong (YieldsFirst rest) s P
  along-fronts P s h = λ xs t y. h xs (rest t) (front s t xs y)

inside-front : (xs ys : List Segment) (from to n : ℕ) → Tile from (xs ++ ys) to → to ≤ n → AreInside n xs
inside-front [] ys from to n h le = tt
inside-front (x ∷ xs) ys from to n h le = let e = tile_le x.end (xs ++ ys) to h.1.1 in ((omega (arith, h.1.0), omega (arith, e, le)), inside-front xs ys x.end to n h.1.1 le)

-- the runs of a parser lie inside its data
pub parser-inside : (p : Parser) (n : ℕ) → data_end p ≤ n → HoldsAlong (YieldsFirst runs_left) p (AreInside n)
parser-inside p n le = along-fronts runs_left (AreInside n) p (λ xs ys e. inside-front xs ys p.begin (data_end p) n (subst (λ l. Tile p.begin l (data_end p)) e (runs-tile p.begin p.rest.now)) le)

front-adjoin : (xs ys : List Segment) (from to : ℕ) → Tile from (xs ++ ys) to → AdjoinFrom from xs
front-adjoin [] ys from to t = tt
front-adjoin (x ∷ xs) ys from to t = (t.0, (omega (arith, t.1.0), front-adjoin xs ys x.end to t.1.1))

front-ends : (xs ys : List Segment) (from to most : ℕ) → Tile from (xs ++ ys) to → to ≤ most → AllByRecursion (λ x. x.end ≤ most) xs
front-ends [] ys from to most t le = tt
front-ends (x ∷ xs) ys from to most t le = (omega (arith, tile_le x.end (xs ++ ys) to t.1.1, le), front-ends xs ys x.end to most t.1.1 le)

front-joinable : (xs ys : List Segment) (from to : ℕ) → Tile from (xs ++ ys) to → to ≤ from + range_limit → IsJoinable xs
front-joinable [] ys from to t le = tt
front-joinable (x ∷ xs) ys from to t le = ((refl, (front-adjoin (x ∷ xs) ys from to t).1), front-ends (x ∷ xs) ys from to (x.begin + range_limit) t (omega (arith, t.0, le)))

-- and can be joined, if the data is not too long
pub parser-joinable : (p : Parser) → data_left p ≤ range_limit → HoldsAlong (YieldsFirst runs_left) p IsJoinable
parser-joinable p small = along-fronts runs_left IsJoinable p (λ xs ys e. front-joinable xs ys p.begin (data_end p) (subst (λ l. Tile p.begin l (data_end p)) e (runs-tile p.begin p.rest.now)) (omega (arith, small)))
