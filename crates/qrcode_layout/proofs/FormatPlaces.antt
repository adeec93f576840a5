-- The places of the format word: from a bit to its place, and from a place to its bit.
use Rattle.std.proofs.Common.{◌≡◌, ℕ, zero, suc, ◌+◌, ◌-◌, ◌*◌, ◌<◌, ◌≤◌, ◌≢◌, ◌==◌, nat_le, nat_lt, nat_abs, Bool, true, false, cond, ◌&&◌, ◌||◌, pos, negsuc, true≢false, refl, arith, sym, ap₂, ◌∙◌, subst, map, get_or, List, [], ◌∷◌, Option, Some, None, inl, inr, if◌then◌else◌}
use Rattle.std.specs.Prelude.{slice_get}
use Rattle.std.specs.List.{range_with_len, position_from, filter_map, list_any, cons_option}
use Rattle.std.proofs.lemmas.Bool.Decides.{nat_tests}
use Rattle.std.proofs.lemmas.Bool.{and_parts, or_cases, or_left, or_right, cases_eq, eqb-true}
use Rattle.std.proofs.lemmas.List.FromFn.{length-map-range_with_len, get_or-map-range_with_len}
use Rattle.qrcode_types.specs.Versions.{side, is_micro}
use Rattle.qrcode_types.specs.declared.types.Version.{Version}
use Rattle.qrcode_types.specs.declared.types.Version.TheVariants.{Normal, Micro}
use Rattle.qrcode_layout.specs.Patterns.{first_format_place, second_format_place, micro_format_place, format_copies, format_index}
use Rattle.qrcode_layout.specs.Laws.{IsInside, IsFormatCopy, FormatCopiesAreIndexed, FormatPlacesAreInCopies}
use Rattle.qrcode_layout.proofs.Formats.{within}

-- the place is in column x and row y
abbrev is_at : ℕ → ℕ → ℕ × ℕ → Bool
is_at x y place = place.0 == x && place.1 == y

-- the bit at a place of a Normal symbol with w modules along a side, by cases of the row and the column
abbrev pub normal_cases : ℕ → ℕ → ℕ → Option ℕ
normal_cases w x y =
    elim (y == 8) [
      | true ↦ (if nat_le x 5 then Some x else (if x == 7 then Some 6 else (if x == 8 then Some 7 else (if nat_le (w - 8) x && nat_lt x w then Some (x + 15 - w) else None))))
      | false ↦
          elim (x == 8) [ true ↦ (if y == 7 then Some 8 else (if nat_le y 5 then Some (14 - y) else (if nat_le (w - 7) y && nat_lt y w then Some (w - 1 - y) else None))) | false ↦ None ]
    ]

-- the bit at a place of a Micro symbol
abbrev pub micro_cases : ℕ → ℕ → Option ℕ
micro_cases x y =
    elim (y == 8) [
      | true ↦ (if nat_le 1 x && nat_le x 8 then Some (x - 1) else None)
      | false ↦
          elim (x == 8) [ true ↦ (if nat_le 1 y && nat_le y 7 then Some (15 - y) else None) | false ↦ None ]
    ]

-- the places of a copy, made from the numbers of the bits
abbrev copy : (ℕ → ℕ × ℕ) → List (ℕ × ℕ)
copy f = map f (range_with_len 0 15)

-- what a search finds is in the list, and passes
found_at : (test : ℕ × ℕ → Bool) (f : ℕ → ℕ × ℕ) (a n i : ℕ) → position_from test a (map f (range_with_len a n)) ≡ Some i → (i < a + n) × (test (f i) ≡ true)
found_at test f a zero i e = absurd (cc)
found_at test f a (suc n) i e = go (test (f a)) refl e (found_at test f (a + 1) n i) where
  go : (b : Bool) → test (f a) ≡ b → cond b (Some a) (position_from test (a + 1) (map f (range_with_len (a + 1) n))) ≡ Some i
      → (position_from test (a + 1) (map f (range_with_len (a + 1) n)) ≡ Some i → (i < a + 1 + n) × (test (f i) ≡ true)) → (i < a + suc n) × (test (f i) ≡ true)
  go true h s later = let same : a ≡ i = cc in (omega arith, subst (λ (k : ℕ). test (f k) ≡ true) same h)
  go false h s later = let r = later s in (omega (arith, r.0), r.1)

-- if a search finds nothing, none of the places passes
missed : (test : ℕ × ℕ → Bool) (f : ℕ → ℕ × ℕ) (a n i : ℕ) → position_from test a (map f (range_with_len a n)) ≡ None → a ≤ i → i < a + n → test (f i) ≡ false
missed test f a zero i e low high = absurd (omega arith)
missed test f a (suc n) i e low high = go (test (f a)) refl e (λ s other. missed test f (a + 1) n i s (omega (arith, other)) (omega arith)) where
  go : (b : Bool) → test (f a) ≡ b → cond b (Some a) (position_from test (a + 1) (map f (range_with_len (a + 1) n))) ≡ None
      → (position_from test (a + 1) (map f (range_with_len (a + 1) n)) ≡ None → a ≢ i → test (f i) ≡ false) → test (f i) ≡ false
  go true h s later = absurd (cc)
  go false h s later = elim (cases_eq a i) [ inl same ↦ subst (λ (k : ℕ). test (f k) ≡ false) same h | inr other ↦ later s other ]

-- the search in all copies gives what tests of each bit give
in_copies : (test : ℕ × ℕ → Bool) (fs : List (ℕ → ℕ × ℕ)) (r : Option ℕ) → ((i : ℕ) → i < 15 → list_any (λ f. test (f i)) fs ≡ true → r ≡ Some i)
    → ((i : ℕ) → r ≡ Some i → (i < 15) × (list_any (λ f. test (f i)) fs ≡ true)) → slice_get (filter_map (position_from test 0) (map copy fs)) 0 ≡ r
in_copies test [] None hit whole = refl
in_copies test [] (Some i) hit whole = let h = (whole i refl).1 in absurd (cc)
in_copies test (f ∷ fs) r hit whole =
    go (position_from test 0 (copy f)) refl
    (λ a. in_copies test fs r (λ i lt h. hit i lt (or_right _ _ h)) (λ i e. let h = whole i e in (h.0, rw (missed test f 0 15 i a (omega arith) h.0) at h.1))) where
      go : (o : Option ℕ) → position_from test 0 (copy f) ≡ o → (position_from test 0 (copy f) ≡ None → slice_get (filter_map (position_from test 0) (map copy fs)) 0 ≡ r)
          → slice_get (cons_option o (filter_map (position_from test 0) (map copy fs))) 0 ≡ r
      go (Some i) a rest = let h = found_at test f 0 15 i a in sym (hit i h.0 (or_left _ _ h.1))
      go None a rest = rest a

or_none : (b : Bool) → (b || false) ≡ true → b ≡ true
or_none b h1 = grind (arith, nat_tests)

-- a place of a copy has the bit of that copy

first_hit : (w x y i : ℕ) → 17 ≤ w → i < 15 → is_at x y (first_format_place i) ≡ true → normal_cases w x y ≡ Some i
first_hit w x y i wide lt e = grind (arith, nat_tests)

second_hit : (w x y i : ℕ) → 17 ≤ w → i < 15 → is_at x y (second_format_place w i) ≡ true → normal_cases w x y ≡ Some i
second_hit w x y i wide lt e = grind (arith, nat_tests)

micro_hit : (x y i : ℕ) → i < 15 → is_at x y (micro_format_place i) ≡ true → micro_cases x y ≡ Some i
micro_hit x y i lt e = grind (arith, nat_tests)

-- a place that has a bit is in a copy

normal_lt : (w x y i : ℕ) → 17 ≤ w → normal_cases w x y ≡ Some i → i < 15
normal_lt w x y i wide e = grind (arith, nat_tests)

normal_place : (w x y i : ℕ) → 17 ≤ w → normal_cases w x y ≡ Some i → (is_at x y (first_format_place i) || (is_at x y (second_format_place w i) || false)) ≡ true
normal_place w x y i wide e = grind (arith, nat_tests)

micro_lt : (x y i : ℕ) → micro_cases x y ≡ Some i → i < 15
micro_lt x y i e = grind (arith, nat_tests)

micro_place : (x y i : ℕ) → micro_cases x y ≡ Some i → is_at x y (micro_format_place i) ≡ true
micro_place x y i e = grind (arith, nat_tests)

-- the bit at a place of Normal, by cases
pub normal_index : (v : Version) (x y : ℕ) → is_micro v ≡ false → format_index v x y ≡ normal_cases (side v) x y
unfolding format_index format_copies
normal_index (Normal v) x y n =
    let w = 4 * nat_abs v + 17 in
    let wide : 17 ≤ w = omega arith in
    in_copies (is_at x y) (first_format_place ∷ second_format_place w ∷ []) (normal_cases w x y)
    (λ i lt h. elim (or_cases _ _ h) [
      | inl first ↦ first_hit w x y i wide lt first
      | inr rest ↦ second_hit w x y i wide lt (or_none _ rest)
    ])
    (λ i e. (normal_lt w x y i wide e, normal_place w x y i wide e))
normal_index (Micro v) x y n = absurd (true≢false n)

-- the bit at a place of Micro, by cases
pub micro_index : (v : Version) (x y : ℕ) → is_micro v ≡ true → format_index v x y ≡ micro_cases x y
unfolding format_index format_copies
micro_index (Normal v) x y m = absurd (true≢false (sym m))
micro_index (Micro v) x y m =
    in_copies (is_at x y) (micro_format_place ∷ []) (micro_cases x y)
    (λ i lt h. micro_hit x y i lt (or_none _ h))
    (λ i e. (micro_lt x y i e, or_left _ _ (micro_place x y i e)))

-- the i-th of a list made by a function of the index
nth : (f : ℕ → ℕ × ℕ) (n i : ℕ) → i < n → get_or (map f (range_with_len 0 n)) i (0, 0) ≡ f i
nth f n i lt = get_or-map-range_with_len f 0 n i i (0, 0) lt (omega arith)

at_itself : (p : ℕ × ℕ) → is_at p.0 p.1 p ≡ true
at_itself (a, b) = grind (arith, nat_tests)

copy_of : (v : Version) (f : ℕ → ℕ × ℕ) → ((i : ℕ) → i < 15 → IsInside v (f i).0 (f i).1) → ((x y i : ℕ) → i < 15 → is_at x y (f i) ≡ true → format_index v x y ≡ Some i)
    → IsFormatCopy v (copy f)
copy_of v f inside index = record {
  count = length-map-range_with_len f 0 15;
  inside = λ i lt. subst (λ (p : ℕ × ℕ). IsInside v p.0 p.1) (sym (nth f 15 i lt)) (inside i lt);
  index = λ i lt. subst (λ (p : ℕ × ℕ). format_index v p.0 p.1 ≡ Some i) (sym (nth f 15 i lt)) (index _ _ i lt (at_itself (f i)));
}

first_inside : (w i : ℕ) → 21 ≤ w → i < 15 → ((first_format_place i).0 < w) × ((first_format_place i).1 < w)
first_inside w i wide lt = (grind (arith, nat_tests), grind (arith, nat_tests))

second_inside : (w i : ℕ) → 21 ≤ w → i < 15 → ((second_format_place w i).0 < w) × ((second_format_place w i).1 < w)
second_inside w i wide lt = (grind (arith, nat_tests), grind (arith, nat_tests))

micro_inside : (w i : ℕ) → 11 ≤ w → i < 15 → ((micro_format_place i).0 < w) × ((micro_format_place i).1 < w)
micro_inside w i wide lt = (grind (arith, nat_tests), grind (arith, nat_tests))

pub format_copies_are_indexed : FormatCopiesAreIndexed
unfolding format_copies
format_copies_are_indexed (Normal (pos n)) valid =
    let v = Normal (pos n) in
    let w = 4 * n + 17 in
    let low = (within n 40 valid).0 in
    let wide : 17 ≤ w = omega arith in (
      copy_of v first_format_place (λ i lt. first_inside w i (omega arith) lt) (λ x y i lt h. normal_index v x y refl ∙ first_hit w x y i wide lt h),
      (copy_of v (second_format_place w) (λ i lt. second_inside w i (omega arith) lt) (λ x y i lt h. normal_index v x y refl ∙ second_hit w x y i wide lt h), tt),
    )
format_copies_are_indexed (Normal (negsuc n)) valid = absurd (cc)
format_copies_are_indexed (Micro (pos n)) valid =
    let v = Micro (pos n) in
    let low = (within n 4 valid).0 in
    (copy_of v micro_format_place (λ i lt. micro_inside (2 * n + 9) i (omega arith) lt) (λ x y i lt h. micro_index v x y refl ∙ micro_hit x y i lt h), tt)
format_copies_are_indexed (Micro (negsuc n)) valid = absurd (cc)

same_place : (p : ℕ × ℕ) (x y : ℕ) → is_at x y p ≡ true → p ≡ (x, y)
same_place (a, b) x y h = let e = and_parts (a == x) (b == y) h in ap₂ (λ m n. (m, n)) (eqb-true a x e.0) (eqb-true b y e.1)

pub format_places_are_in_copies : FormatPlacesAreInCopies
unfolding format_copies
format_places_are_in_copies (Normal v) x y i valid e =
    let w = 4 * nat_abs v + 17 in
    let wide : 17 ≤ w = omega arith in
    let at = sym (normal_index (Normal v) x y refl) ∙ e in
    let lt = normal_lt w x y i wide at in (
      lt,
      elim (or_cases _ _ (normal_place w x y i wide at)) [
        | inl first ↦ (0, (omega arith, nth first_format_place 15 i lt ∙ same_place (first_format_place i) x y first))
        | inr second ↦ (1, (omega arith, nth (second_format_place w) 15 i lt ∙ same_place (second_format_place w i) x y (or_none _ second)))
      ],
    )
format_places_are_in_copies (Micro v) x y i valid e =
    let at = sym (micro_index (Micro v) x y refl) ∙ e in
    let lt = micro_lt x y i at in
    (lt, (0, (omega arith, nth micro_format_place 15 i lt ∙ same_place (micro_format_place i) x y (micro_place x y i at))))
