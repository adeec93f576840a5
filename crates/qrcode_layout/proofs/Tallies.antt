-- A sum over a list by the kinds of its elements, where a kind is a list of test results.
use Rattle.std.proofs.Common.{◌≡◌, ℕ, zero, suc, ◌+◌, ◌*◌, Bool, true, false, List, [], ◌∷◌, map, arith, refl, sym, ap, ap₂, ◌∙◌}
use Rattle.std.specs.List.{range_with_len}
use Rattle.qrcode_layout.proofs.Totals.{total, total_same}

unfoldable pub is_same : List Bool → List Bool → Bool
is_same [] [] = true
is_same [] (c ∷ t) = false
is_same (b ∷ s) [] = false
is_same (true ∷ s) (true ∷ t) = is_same s t
is_same (true ∷ s) (false ∷ t) = false
is_same (false ∷ s) (true ∷ t) = false
is_same (false ∷ s) (false ∷ t) = is_same s t

same_from : (s t : List Bool) → is_same s t ≡ true → s ≡ t
unfolding is_same
same_from [] [] e = refl
same_from [] (c ∷ t) e = absurd (cc)
same_from (b ∷ s) [] e = absurd (cc)
same_from (true ∷ s) (true ∷ t) e = ap (λ u. true ∷ u) (same_from s t e)
same_from (true ∷ s) (false ∷ t) e = absurd (cc)
same_from (false ∷ s) (true ∷ t) e = absurd (cc)
same_from (false ∷ s) (false ∷ t) e = ap (λ u. false ∷ u) (same_from s t e)

-- kinds with their counts, with one more of a kind
unfoldable pub insert : List Bool → List (List Bool × ℕ) → List (List Bool × ℕ)
insert s [] = (s, 1) ∷ []
insert s (e ∷ rest) = elim (is_same s e.0) [ true ↦ (e.0, e.1 + 1) ∷ rest | false ↦ e ∷ insert s rest ]

-- the kinds of a list, with their counts
unfoldable pub tally : List (List Bool) → List (List Bool × ℕ)
tally [] = []
tally (s ∷ kinds) = insert s (tally kinds)

-- the sum of a number for each kind, as often as the kind is counted
unfoldable pub weighed : (List Bool → ℕ) → List (List Bool × ℕ) → ℕ
weighed g [] = 0
weighed g (e ∷ rest) = e.1 * g e.0 + weighed g rest

weighed_insert : (g : List Bool → ℕ) (s : List Bool) (counts : List (List Bool × ℕ)) → weighed g (insert s counts) ≡ g s + weighed g counts
unfolding weighed insert
weighed_insert g s [] = omega arith
weighed_insert g s (e ∷ rest) = pick (is_same s e.0) refl (weighed_insert g s rest) where
  pick : (b : Bool) → is_same s e.0 ≡ b → weighed g (insert s rest) ≡ g s + weighed g rest
      → weighed g (elim b as (λ _. List (List Bool × ℕ)) [ true ↦ (e.0, e.1 + 1) ∷ rest | false ↦ e ∷ insert s rest ]) ≡ g s + (e.1 * g e.0 + weighed g rest)
  pick true is later = let same : g s ≡ g e.0 = ap g (same_from s e.0 is) in omega (arith, same)
  pick false is later = omega (arith, later)

-- a sum over a list made from a function, by kinds
pub total_weighed : (g : List Bool → ℕ) (f : ℕ → List Bool) (a n : ℕ) → total n (λ i. g (f (a + i))) ≡ weighed g (tally (map f (range_with_len a n)))
unfolding total tally weighed
total_weighed g f a zero = refl
total_weighed g f a (suc n) =
    let here : g (f (a + 0)) ≡ g (f a) = ap (λ k. g (f k)) (omega arith) in
    let moved = total_same n (λ i. g (f (a + suc i))) (λ i. g (f (a + 1 + i))) (λ i _. ap (λ k. g (f k)) (let z : a + suc i ≡ a + 1 + i = omega arith in z)) in
    ap₂ (λ m k. m + k) here (moved ∙ total_weighed g f (a + 1) n) ∙ sym (weighed_insert g (f a) (tally (map f (range_with_len (a + 1) n))))
