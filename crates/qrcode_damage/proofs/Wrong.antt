-- Which modules are wrong, kind by kind.
use Rattle.std.proofs.Common.{◌≡◌, ◌≢◌, ℕ, ◌+◌, ◌-◌, ◌*◌, ◌/◌, ◌%◌, ◌<◌, ◌≤◌, nat_le, nat_lt, Bool, true, false, not, cond, ◌&&◌, ◌||◌, List, [], ◌∷◌, ◌++◌, map, Option, Some, None, is_some, pos, negsuc, true≢false, refl, sym, ap, ap₂, ◌∙◌, arith, subst, IsTrue}
use Rattle.std.specs.List.{range_with_len, count_by, AllByRecursion}
use Rattle.std.proofs.Math.Nat.{div-lt_iff_lt-mul, mod-lt}
use Rattle.std.proofs.lemmas.Bool.{and_parts, not-true, or_left, or_right, le-ltb}
use Rattle.std.proofs.lemmas.Bool.Decides.{nat_tests}
use Rattle.std.proofs.lemmas.List.FromFn.{get_or-map-range_with_len}
use Rattle.std.proofs.lemmas.Nat.{div-add-mod', div-mul-add, mod-mul-add}
use Rattle.qrcode_types.specs.Versions.{is_valid, is_micro, side}
use Rattle.qrcode_types.specs.declared.types.Version.{Version}
use Rattle.qrcode_types.specs.declared.types.Version.TheVariants.{Normal, Micro}
use Rattle.qrcode_types.specs.declared.types.EcLevel.{EcLevel}
use Rattle.qrcode_layout.specs.Figures.{has, normal_figures, normal_format_figures, alignments, version_figures, word_figures}
use Rattle.qrcode_layout.specs.Laws.{IsFormatCopy, IsInside}
use Rattle.qrcode_layout.specs.Patterns.{pattern, format_copies, first_format_place, second_format_place, micro_format_place, format_index, is_functional_place}
use Rattle.qrcode_layout.proofs.Agreements.{format_places_are_no_patterns}
use Rattle.qrcode_layout.proofs.FigurePlaces.{any_has, normal_functional}
use Rattle.qrcode_layout.proofs.Formats.{within}
use Rattle.qrcode_layout.proofs.FormatPlaces.{normal_cases, normal_index, format_copies_are_indexed}
use Rattle.qrcode_damage.specs.Damage.{upper_place, lower_place, module_place, has_version_word, version_copies, is_version_place, is_pattern_place, pattern_places}
use Rattle.qrcode_damage.specs.Errors.{is_set, is_version_wrong, is_format_wrong, is_pattern_wrong, is_free_wrong, is_wrong_by_bit, is_wrong, AreErrors}
use Rattle.qrcode_damage.specs.declared.damage.Damage.{Damage}
use Rattle.qrcode_damage.specs.declared.errors.Errors.{Errors}
use Rattle.qrcode_damage.proofs.Counted.{all_along, all_filtered, count_filtered, counted_along}

abbrev wrong_at : Version → Errors → ℕ × ℕ → Bool
wrong_at v e p = is_wrong v e p.0 p.1

-- by the format word's bit at this place, if any
pub wrong_by_index : (v : Version) (e : Errors) (x y : ℕ) (o : Option ℕ) → format_index v x y ≡ o → is_wrong v e x y ≡ is_wrong_by_bit v e x y o
unfolding is_wrong
wrong_by_index v e x y o here = ap (is_wrong_by_bit v e x y) here

format_is_functional : (v : Version) (x y i : ℕ) → format_index v x y ≡ Some i → is_functional_place v x y ≡ true
unfolding is_functional_place
format_is_functional v x y i here = ap (λ (o : Option ℕ). is_some (pattern v x y) || is_some o) here ∙ or_right (is_some (pattern v x y)) true refl

-- a free place
pub free_wrong : (v : Version) (e : Errors) (x y : ℕ) → is_functional_place v x y ≡ false → is_wrong v e x y ≡ is_free_wrong v e x y
free_wrong v e x y free = go (format_index v x y) refl where
  go : (o : Option ℕ) → format_index v x y ≡ o → is_wrong v e x y ≡ is_free_wrong v e x y
  go (Some i) here = absurd (true≢false (sym (format_is_functional v x y i here) ∙ free))
  go None none = wrong_by_index v e x y None none ∙ ap (λ b. cond b (is_pattern_wrong e (side v) x y || is_version_wrong e (side v) x y) (is_free_wrong v e x y)) free

-- any other place
other_wrong : (v : Version) (e : Errors) (x y : ℕ) → format_index v x y ≡ None → is_functional_place v x y ≡ true
    → is_wrong v e x y ≡ (is_pattern_wrong e (side v) x y || is_version_wrong e (side v) x y)
other_wrong v e x y none functional =
    wrong_by_index v e x y None none ∙ ap (λ b. cond b (is_pattern_wrong e (side v) x y || is_version_wrong e (side v) x y) (is_free_wrong v e x y)) functional

-- a pattern other than the version word
is_version_right : (e : Errors) (w x y : ℕ) → cond (nat_le 45 w) (any_has x y (word_figures w)) false ≡ false → is_version_wrong e w x y ≡ false
is_version_right e w x y apart = grind (arith, nat_tests)

or_is_and : (b : Bool) → (b || false) ≡ (b && true)
or_is_and b = grind (arith, nat_tests)

pub other_is : (v : Version) (x y : ℕ) → is_some (format_index v x y) ≡ false → is_version_place v x y ≡ false → is_functional_place v x y ≡ is_pattern_place v x y
unfolding is_functional_place
other_is v x y none apart = ap₂ (λ a b. is_some (pattern v x y) || a) none apart ∙ or_is_and (is_some (pattern v x y)) ∙ ap (λ b. is_some (pattern v x y) && not b) (sym apart)

or_false : (b : Bool) → (b || false) ≡ b
or_false b = grind (arith, nat_tests)

pattern_wrong : (v : Version) (e : Errors) (x y : ℕ) → IsTrue (is_valid v) → is_pattern_place v x y ≡ true → is_wrong v e x y ≡ is_pattern_wrong e (side v) x y
unfolding is_functional_place
pattern_wrong v e x y valid is =
    let parts = and_parts (is_some (pattern v x y)) (not (is_version_place v x y)) is in
    other_wrong v e x y (go parts.0 (format_index v x y) refl) (ap (λ b. b || is_some (format_index v x y)) parts.0)
    ∙ ap (λ b. is_pattern_wrong e (side v) x y || b) (is_version_right e (side v) x y (not-true (is_version_place v x y) parts.1))
    ∙ or_false (is_pattern_wrong e (side v) x y) where
      go : is_some (pattern v x y) ≡ true → (o : Option ℕ) → format_index v x y ≡ o → format_index v x y ≡ None
      go some (Some i) here = absurd (true≢false (sym some ∙ ap is_some (format_places_are_no_patterns v x y i valid here)))
      go some None none = none

-- all places of patterns are those of the bytes that are not zero
pub patterns_counted : (v : Version) (l : EcLevel) (d : Damage) (e : Errors) → IsTrue (is_valid v) → AreErrors v l d e
    → count_by (wrong_at v e) (pattern_places v) ≡ d.pattern_modules
unfolding pattern_places
patterns_counted v l d e valid are =
    let w = side v in
    count_filtered (λ (p : ℕ × ℕ). is_pattern_place v p.0 p.1) (wrong_at v e) (map (module_place w) (range_with_len 0 (w * w)))
    ∙ counted_along (λ (p : ℕ × ℕ). is_pattern_place v p.0 p.1 && wrong_at v e p) (module_place w) (w * w) e.patterns.items are.patterns.all.long
    (λ i below. go i (is_pattern_place v (i % w) (i / w)) refl)
    ∙ are.patterns.all.wrong where
      go : (i : ℕ) (b : Bool) → is_pattern_place v (i % side v) (i / side v) ≡ b
          → (is_pattern_place v (i % side v) (i / side v) && is_wrong v e (i % side v) (i / side v)) ≡ is_set e.patterns.items i
      go i true is =
          let same : i / side v * side v + i % side v ≡ i = omega (arith, div-add-mod' i (side v)) in
          ap₂ (λ a b. a && b) is (pattern_wrong v e (i % side v) (i / side v) valid is) ∙ ap (is_set e.patterns.items) same
      go i false is = ap (λ a. a && is_wrong v e (i % side v) (i / side v)) is ∙ sym (are.patterns.others i is)

pub patterns_inside : (v : Version) → AllByRecursion (λ p. IsInside v p.0 p.1) (pattern_places v)
unfolding pattern_places
patterns_inside v =
    let w = side v in
    all_filtered (λ p. IsInside v p.0 p.1) (λ p. is_pattern_place v p.0 p.1) (map (module_place w) (range_with_len 0 (w * w)))
    (all_along (λ p. IsInside v p.0 p.1) (module_place w) 0 (w * w)
    (λ i below. (mod-lt i (some v), (div-lt_iff_lt-mul {k = w} {x = i} {y = w} (some v)).1 (omega (arith, below))))) where
      some : (v : Version) → 1 ≤ side v
      some (Normal n) = omega arith
      some (Micro n) = omega arith

-- The copies of the format word.

-- the places of a copy, all of which take their bits from one list
copy_counted : (v : Version) (e : Errors) (place : ℕ → ℕ × ℕ) (bytes : List ℕ) → IsFormatCopy v (map place (range_with_len 0 15))
    → ((i : ℕ) → i < 15 → is_format_wrong e i (place i).0 (place i).1 ≡ is_set bytes i)
    → (i : ℕ) → i < 15 → is_wrong v e (place i).0 (place i).1 ≡ is_set bytes i
copy_counted v e place bytes copy takes i below =
    wrong_by_index v e (place i).0 (place i).1 (Some i)
    (subst (λ (p : ℕ × ℕ). format_index v p.0 p.1 ≡ Some i) (get_or-map-range_with_len place 0 15 i i (0, 0) below (omega arith)) (copy.index i below))
    ∙ takes i below

first_takes : (e : Errors) (i : ℕ) → i < 15 → is_format_wrong e i (first_format_place i).0 (first_format_place i).1 ≡ is_set e.first_format.items i
first_takes e i below = ap (λ b. is_set (cond b e.first_format.items e.last_format.items) i) (near i below) where
  near : (i : ℕ) → i < 15 → (nat_le (first_format_place i).0 8 && nat_le (first_format_place i).1 8) ≡ true
  near i below = grind (arith, nat_tests)

second_takes : (e : Errors) (w i : ℕ) → 21 ≤ w → i < 15 → is_format_wrong e i (second_format_place w i).0 (second_format_place w i).1 ≡ is_set e.last_format.items i
second_takes e w i wide below = ap (λ b. is_set (cond b e.first_format.items e.last_format.items) i) (far w i wide below) where
  far : (w i : ℕ) → 21 ≤ w → i < 15 → (nat_le (second_format_place w i).0 8 && nat_le (second_format_place w i).1 8) ≡ false
  far w i wide below = grind (arith, nat_tests)

micro_takes : (e : Errors) (i : ℕ) → i < 15 → is_format_wrong e i (micro_format_place i).0 (micro_format_place i).1 ≡ is_set e.first_format.items i
micro_takes e i below = ap (λ b. is_set (cond b e.first_format.items e.last_format.items) i) (near i below) where
  near : (i : ℕ) → i < 15 → (nat_le (micro_format_place i).0 8 && nat_le (micro_format_place i).1 8) ≡ true
  near i below = grind (arith, nat_tests)

pub formats_counted : (v : Version) (l : EcLevel) (d : Damage) (e : Errors) → IsTrue (is_valid v) → AreErrors v l d e
    → AllByRecursion (λ places. count_by (wrong_at v e) places ≡ d.format_bits) (format_copies v)
unfolding format_copies
formats_counted (Normal (pos n)) l d e valid are =
    let v = Normal (pos n) in
    let w = 4 * n + 17 in
    let copies = format_copies_are_indexed v valid in
    let low = (within n 40 valid).0 in
    let wide : 21 ≤ w = omega arith in (
      counted_along (wrong_at v e) first_format_place 15 e.first_format.items are.first_format.long
          (copy_counted v e first_format_place e.first_format.items copies.0 (first_takes e)) ∙ are.first_format.wrong,
      (
        counted_along (wrong_at v e) (second_format_place w) 15 e.last_format.items are.last_format.long
            (copy_counted v e (second_format_place w) e.last_format.items copies.1.0 (λ i below. second_takes e w i wide below)) ∙ are.last_format.wrong,
        tt,
      ),
    )
formats_counted (Normal (negsuc n)) l d e valid are = absurd (cc)
formats_counted (Micro n) l d e valid are =
    let v = Micro n in
    let copies = format_copies_are_indexed v valid in (
      counted_along (wrong_at v e) micro_format_place 15 e.first_format.items are.first_format.long
          (copy_counted v e micro_format_place e.first_format.items copies.0 (micro_takes e)) ∙ are.first_format.wrong,
      tt,
    )

-- The copies of the version word.

apart_from_format : (w x y : ℕ) → x ≢ 8 → y ≢ 8 → normal_cases w x y ≡ None
apart_from_format w x y p q = grind (arith, nat_tests)

upper_has : (w r j : ℕ) → 45 ≤ w → r < 3 → j < 6 → any_has (w - 11 + r) j (version_figures w) ≡ true
upper_has w r j wide p q = grind (arith, nat_tests)

lower_has : (w r j : ℕ) → 45 ≤ w → r < 3 → j < 6 → any_has j (w - 11 + r) (version_figures w) ≡ true
lower_has w r j wide p q = grind (arith, nat_tests)

upper_takes : (e : Errors) (w r j : ℕ) → 45 ≤ w → r < 3 → j < 6 → is_version_wrong e w (w - 11 + r) j ≡ is_set e.first_version.items (3 * j + r)
upper_takes e w r j wide p q =
    let back : 3 * j + (w - 11 + r - (w - 11)) ≡ 3 * j + r = omega arith in
    let narrow : nat_lt w 45 ≡ false = le-ltb w 45 wide in
    let inside : (nat_lt j 6 && nat_le (w - 11) (w - 11 + r) && nat_lt (w - 11 + r) (w - 8)) ≡ true = grind (arith, nat_tests) in
    rw (narrow, inside) (ap (is_set e.first_version.items) back)

lower_takes : (e : Errors) (w r j : ℕ) → 45 ≤ w → r < 3 → j < 6 → is_version_wrong e w j (w - 11 + r) ≡ is_set e.last_version.items (3 * j + r)
lower_takes e w r j wide p q =
    let back : 3 * j + (w - 11 + r - (w - 11)) ≡ 3 * j + r = omega arith in
    let narrow : nat_lt w 45 ≡ false = le-ltb w 45 wide in
    let far : nat_lt (w - 11 + r) 6 ≡ false = le-ltb (w - 11 + r) 6 (omega arith) in
    let inside : (nat_lt j 6 && nat_le (w - 11) (w - 11 + r) && nat_lt (w - 11 + r) (w - 8)) ≡ true = grind (arith, nat_tests) in
    rw (narrow, far, inside) (ap (is_set e.last_version.items) back)

-- a place of a version word is none of a pattern
word_apart : (v : Version) (x y : ℕ) → any_has x y (version_figures (side v)) ≡ true → is_pattern_place v x y ≡ false
word_apart v x y has = grind (arith, nat_tests)

-- no byte outside of the patterns is set
abbrev OthersRight : Version → Errors → Type 0
OthersRight v e = (i : ℕ) → is_pattern_place v (i % side v) (i / side v) ≡ false → is_set e.patterns.items i ≡ false

-- a place of a version word is functional, and not of the format word
word_wrong : (v : Version) (e : Errors) (x y : ℕ) → OthersRight v e → is_micro v ≡ false → x < side v → x ≢ 8 → y ≢ 8 → any_has x y (version_figures (side v)) ≡ true
    → is_wrong v e x y ≡ is_version_wrong e (side v) x y
word_wrong v e x y others normal inside p q has =
    other_wrong v e x y (normal_index v x y normal ∙ apart_from_format (side v) x y p q)
    (normal_functional v x y (side v) normal refl
    ∙ or_right (any_has x y (normal_format_figures (side v) ++ normal_figures (side v))) _ (or_left (any_has x y (version_figures (side v))) (any_has x y (alignments v)) has))
    ∙ ap (λ b. b || is_version_wrong e (side v) x y)
    (others (y * side v + x) (ap₂ (is_pattern_place v) (mod-mul-add y (side v) x inside) (div-mul-add y (side v) x inside) ∙ word_apart v x y has))

upper_wrong : (v : Version) (e : Errors) (i : ℕ) → OthersRight v e → is_micro v ≡ false → 45 ≤ side v → i < 18
    → is_wrong v e (upper_place (side v) i).0 (upper_place (side v) i).1 ≡ is_set e.first_version.items i
upper_wrong v e i others normal wide below =
    let r = i % 3 in
    let j = i / 3 in
    let small : r < 3 = omega arith in
    let few : j < 6 = omega arith in
    let whole : 3 * j + r ≡ i = omega arith in
    word_wrong v e (side v - 11 + r) j others normal (omega arith) (omega arith) (omega arith) (upper_has (side v) r j wide small few)
    ∙ upper_takes e (side v) r j wide small few ∙ ap (is_set e.first_version.items) whole

lower_wrong : (v : Version) (e : Errors) (i : ℕ) → OthersRight v e → is_micro v ≡ false → 45 ≤ side v → i < 18
    → is_wrong v e (lower_place (side v) i).0 (lower_place (side v) i).1 ≡ is_set e.last_version.items i
lower_wrong v e i others normal wide below =
    let r = i % 3 in
    let j = i / 3 in
    let small : r < 3 = omega arith in
    let few : j < 6 = omega arith in
    let whole : 3 * j + r ≡ i = omega arith in
    word_wrong v e j (side v - 11 + r) others normal (omega arith) (omega arith) (omega arith) (lower_has (side v) r j wide small few)
    ∙ lower_takes e (side v) r j wide small few ∙ ap (is_set e.last_version.items) whole

-- only Normal versions have it
wide_is_normal : (v : Version) → IsTrue (is_valid v) → has_version_word v ≡ true → is_micro v ≡ false
wide_is_normal (Normal n) valid wide = refl
wide_is_normal (Micro (pos n)) valid wide = let most = (within n 4 valid).1 in absurd (grind (arith, nat_tests))
wide_is_normal (Micro (negsuc n)) valid wide = absurd (cc)

pub versions_counted : (v : Version) (l : EcLevel) (d : Damage) (e : Errors) → IsTrue (is_valid v) → AreErrors v l d e
    → AllByRecursion (λ places. count_by (wrong_at v e) places ≡ d.version_bits) (version_copies v)
unfolding version_copies
versions_counted v l d e valid are = go (has_version_word v) refl where
  go : (b : Bool) → has_version_word v ≡ b
      → AllByRecursion (λ places. count_by (wrong_at v e) places ≡ d.version_bits)
      (cond b (map (upper_place (side v)) (range_with_len 0 18) ∷ map (lower_place (side v)) (range_with_len 0 18) ∷ []) [])
  go true has =
      let normal = wide_is_normal v valid has in
      let wide : 45 ≤ side v = grind (arith, nat_tests) in (
        counted_along (wrong_at v e) (upper_place (side v)) 18 e.first_version.items are.first_version.long (λ i below. upper_wrong v e i are.patterns.others normal wide below) ∙ are.first_version.wrong,
        (
          counted_along (wrong_at v e) (lower_place (side v)) 18 e.last_version.items are.last_version.long (λ i below. lower_wrong v e i are.patterns.others normal wide below) ∙ are.last_version.wrong,
          tt,
        ),
      )
  go false none = tt
