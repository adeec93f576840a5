use Rattle.std.proofs.Common.{◌≡◌, ℕ, List, [], ◌∷◌, ◌++◌, length, sym, ap, ◌∙◌, subst, Bor, Iter}
use Rattle.std.specs.Prelude.{Option, Some, None, MatchOption, unwrap_or}
use Rattle.std.specs.Option.{option_copied}
use Rattle.std.specs.Iterator.{Yields}
use Rattle.std.specs.List.{AllByRecursion}
use Rattle.std.specs.declared.iter.Copied.{Copied}
use Rattle.qrcode_bits.specs.declared.optimize.Segment.{Segment}
use Rattle.qrcode_bits.specs.Segments.{AdjoinFrom}
use Rattle.qrcode_bits.specs.Groups.{IsJoinable}
use Rattle.qrcode_tests.proofs.bits.optimizer.joins.Goals as goal

adjoin_front : (from : ℕ) (xs ys : List Segment) → AdjoinFrom from (xs ++ ys) → AdjoinFrom from xs
adjoin_front from [] ys h = tt
adjoin_front from (x ∷ xs) ys h = (h.0, (h.1.0, adjoin_front x.end xs ys h.1.1))

all_front : (P : Segment → Type 0) (xs ys : List Segment) → AllByRecursion P (xs ++ ys) → AllByRecursion P xs
all_front P [] ys h = tt
all_front P (x ∷ xs) ys h = (h.0, all_front P xs ys h.1)

joinable_front : (xs ys : List Segment) → IsJoinable (xs ++ ys) → IsJoinable xs
joinable_front [] ys h = tt
joinable_front (x ∷ xs) ys h = (adjoin_front x.begin (x ∷ xs) ys h.0, all_front _ (x ∷ xs) ys h.1)

-- one call of next yields the first of the remaining segments
one_came : (P : Type 0) (s t : List Segment) (o : Option (Bor Segment)) (x : Segment) → MatchOption o P (λ b. s ≡ b.now ∷ t) → Some x ≡ option_copied o → s ≡ x ∷ t
one_came P s t None x m e = cc
one_came P s t (Some b) x m e = m ∙ ap (λ y. y ∷ t) (sym (ap (λ o. unwrap_or o x) e))

module _ {S : Type 0} (steps : S → Option Segment → S → Type 0) (rest : S → List Segment) (gives : (s t : S) (x : Segment) → steps s (Some x) t → rest s ≡ x ∷ rest t) where
  front : (s t : S) (xs : List Segment) → Yields steps s xs t → rest s ≡ xs ++ rest t
  front s t [] y = ap rest y
  front s t (x ∷ xs) (j, st, y) = gives s j x st ∙ ap (λ l. x ∷ l) (front j t xs y)

-- what the iterator over the copied slice yields in all
abbrev slice_gives : Copied (Iter Segment) → Option Segment → Copied (Iter Segment) → Type 0
slice_gives s r t = (o : Option (Bor Segment)) × MatchOption o ((length s.iter.rest.now ≡ 0) × (t.iter ≡ s.iter)) (λ b. s.iter.rest.now ≡ b.now ∷ t.iter.rest.now) × (r ≡ option_copied o)

left : Copied (Iter Segment) → List Segment
left s = s.iter.rest.now

one_left : (s t : Copied (Iter Segment)) (x : Segment) → slice_gives s (Some x) t → left s ≡ x ∷ left t
unfolding left
one_left s t x st = one_came ((length s.iter.rest.now ≡ 0) × (t.iter ≡ s.iter)) s.iter.rest.now t.iter.rest.now st.0 x st.1 st.2

pub new-requires-clause-joinable : goal.new-requires-clause-joinable
unfolding left
new-requires-clause-joinable c = λ xs t y.
    let given = ap (λ (i : Iter Segment). i.rest.now) c.copied.ensures.source ∙ c.iter.ensures.rest in
    joinable_front xs (left t) (subst IsJoinable (sym given ∙ front slice_gives left one_left c.copied.result t xs y) c.requires.joinable)
