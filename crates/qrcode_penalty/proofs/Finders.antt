-- Finder forms in a line with four light places before it.
use Rattle.std.proofs.Common.{◌≡◌, ℕ, zero, suc, ◌+◌, ◌-◌, ◌*◌, ◌/◌, ◌^◌, ◌<◌, ◌≤◌, Bool, true, false, not, ◌&&◌, ◌||◌, refl, ap, ap₂, sym, ◌∙◌, arith, count_ones, bit_and, bit_or, add_assoc, nat_le, leb-true}
use Rattle.std.proofs.lemmas.Nat.{or_lt, and_le_r, pow_below}
use Rattle.std.proofs.Math.Pow.{pow_mono}
use Rattle.std.proofs.lemmas.Bool.Decides.{nat_tests}
use Rattle.qrcode_penalty.specs.Rows.{is_set}
use Rattle.qrcode_penalty.proofs.Places.{differ, has_and, has_or, has_xor, has_without, has_shr, has_shl, has_shl_below, has_above}
use Rattle.qrcode_penalty.specs.Penalty.{is_finder_like, finder_penalty_at, finder_penalty, is_light_from}
use Rattle.qrcode_penalty.proofs.Sums.{weigh_places}
use Rattle.qrcode_penalty.proofs.Lines.{without, edges, finder_test, fits_up}

-- a line with four light places before it
abbrev pub pad : (ℕ → Bool) → ℕ → Bool
pad line zero = false
pad line (suc zero) = false
pad line (suc (suc zero)) = false
pad line (suc (suc (suc zero))) = false
pad line (suc (suc (suc (suc k)))) = line k

-- one of the four places from k on is dark
abbrev pub four : (ℕ → Bool) → ℕ → Bool
four f k = (f k || f (k + 1)) || (f (k + 2) || f (k + 3))

four_test : (a b c d : Bool) → (not a && (not b && (not c && (not d && true)))) ≡ not ((a || b) || (c || d))
four_test a b c d = grind (arith, nat_tests)

three_test : (a b c : Bool) → (not a && (not b && (not c && true))) ≡ not ((false || a) || (b || c))
three_test a b c = grind (arith, nat_tests)

two_test : (a b : Bool) → (not a && (not b && true)) ≡ not ((false || false) || (a || b))
two_test a b = grind (arith, nat_tests)

one_test : (a : Bool) → (not a && true) ≡ not ((false || false) || (false || a))
one_test true = refl
one_test false = refl

not_both : (a b : Bool) → not (a && b) ≡ (not a || not b)
not_both a b = grind (arith, nat_tests)

or_not : (a b : Bool) → (a ≡ true → b ≡ false) → (a || not b) ≡ not b
or_not a b h = grind (arith, nat_tests)

pad_from : (line : ℕ → Bool) (i s : ℕ) → i ≡ s + 4 → pad line i ≡ line s
pad_from line i s h = let e : i ≡ suc (suc (suc (suc s))) = omega arith in ap (λ k. pad line k) e

pad_four : (line : ℕ → Bool) (i s : ℕ) → i ≡ s + 4 → four (pad line) i ≡ four line s
pad_four line i s h =
    ap₂ (λ (a b : Bool). a || b)
    (ap₂ (λ (a b : Bool). a || b) (pad_from line i s h) (pad_from line (i + 1) (s + 1) (omega arith)))
    (ap₂ (λ (a b : Bool). a || b) (pad_from line (i + 2) (s + 2) (omega arith)) (pad_from line (i + 3) (s + 3) (omega arith)))

last_false : (a b c d e : Bool) → (((a && (b && false)) && c) && d) && e ≡ false
last_false a b c d e = grind (arith, nat_tests)

module _ (line : ℕ → Bool) (n : ℕ) (outside : (j : ℕ) → n ≤ j → line j ≡ false) where
  light_at : (j : ℕ) → (nat_le n j || not (line j)) ≡ not (line j)
  light_at j = or_not (nat_le n j) (line j) (λ e. outside j (leb-true n j e))

  light_four : (s : ℕ) → is_light_from n line s 4 ≡ not (four line s)
  light_four s = simp (light_at, add_assoc) (four_test (line s) (line (s + 1)) (line (s + 2)) (line (s + 3)))

  light_before : (k : ℕ) → is_light_from n line (k - 4) (k - (k - 4)) ≡ not (four (pad line) k)
  light_before zero = refl
  light_before (suc zero) = simp light_at (one_test (line 0))
  light_before (suc (suc zero)) = simp light_at (two_test (line 0) (line 1))
  light_before (suc (suc (suc zero))) = simp light_at (three_test (line 0) (line 1) (line 2))
  light_before (suc (suc (suc (suc k)))) =
      let a : suc (suc (suc (suc k))) - 4 ≡ k = omega arith in
      let b : suc (suc (suc (suc k))) - k ≡ 4 = omega arith in
      ap₂ (λ (x y : ℕ). is_light_from n line x y) a (ap (λ x. suc (suc (suc (suc k))) - x) a ∙ b) ∙ light_four k ∙ ap not (sym (pad_four line (suc (suc (suc (suc k)))) k (omega arith)))

  light_after : (k : ℕ) → is_light_from n line (k + 7) 4 ≡ not (four (pad line) (k + 11))
  light_after k = light_four (k + 7) ∙ ap not (sym (pad_four line (k + 11) (k + 7) (omega arith)))

  pub finder_at : (k : ℕ) → ((((((line k && line (k + 2)) && (line (k + 4) && line (k + 6))) && line (k + 3)) && not (line (k + 1) || line (k + 5))) && not (four (pad line) k && four (pad line) (k + 11)))) ≡ (is_finder_like line k && (is_light_from n line (k - 4) (k - (k - 4)) || is_light_from n line (k + 7) 4))
  unfolding is_finder_like
  finder_at k =
      finder_test (line k) (line (k + 1)) (line (k + 2)) (line (k + 3)) (line (k + 4)) (line (k + 5)) (line (k + 6)) (not (four (pad line) k && four (pad line) (k + 11)))
      ∙ ap (λ q. is_finder_like line k && q) (not_both (four (pad line) k) (four (pad line) (k + 11)) ∙ ap₂ (λ (a b : Bool). a || b) (sym (light_before k)) (sym (light_after k)))

-- the intermediate words of `finder_penalties`
abbrev pub twos : ℕ → ℕ
twos a = bit_or a (a * 2 ^ 1)

abbrev pub fours : ℕ → ℕ
fours a = bit_or (twos a) (twos a * 2 ^ 2)

abbrev pub crowded : ℕ → ℕ
crowded a = bit_and (fours a) (fours a / 2 ^ 11) * 2 ^ 1

-- the places where the colour changes to the next place, and changes back after it
abbrev pub turns : ℕ → ℕ
turns a = bit_and (edges a) (edges a / 2 ^ 1)

-- the dark places k for which k + 2, k + 3 and k + 4 have one colour
abbrev pub middles : ℕ → ℕ
middles a = without a (bit_or (edges a) (edges a / 2 ^ 1) / 2 ^ 2)

abbrev pub shapes : ℕ → ℕ
shapes a = bit_and (bit_and (turns a) (turns a / 2 ^ 4)) (middles a)

abbrev pub forms : ℕ → ℕ
forms a = without (shapes a) (crowded a)

or_turn : (a b c d : Bool) → ((a || b) || (c || d)) ≡ ((d || c) || (b || a))
or_turn a b c d = grind (arith, nat_tests)

once_at : (a k : ℕ) → is_set (a * 2 ^ 1) k ≡ pad (is_set a) (k + 3)
once_at a zero = has_shl_below a 1 0 (omega arith)
once_at a (suc k) =
    let e : suc k ≡ k + 1 = omega arith in
    ap (λ i. is_set (a * 2 ^ 1) i) e ∙ has_shl a 1 k ∙ sym (pad_from (is_set a) (suc k + 3) k (omega arith))

twos_at : (a k : ℕ) → is_set (twos a) k ≡ (pad (is_set a) (k + 4) || pad (is_set a) (k + 3))
twos_at a k = has_or a (a * 2 ^ 1) k ∙ ap₂ (λ (x y : Bool). x || y) (sym (pad_from (is_set a) (k + 4) k refl)) (once_at a k)

twice_at : (a k : ℕ) → is_set (twos a * 2 ^ 2) k ≡ (pad (is_set a) (k + 2) || pad (is_set a) (k + 1))
twice_at a zero = has_shl_below (twos a) 2 0 (omega arith)
twice_at a (suc zero) = has_shl_below (twos a) 2 1 (omega arith)
twice_at a (suc (suc k)) =
    let e : suc (suc k) ≡ k + 2 = omega arith in
    let f : k + 4 ≡ suc (suc k) + 2 = omega arith in
    let g : k + 3 ≡ suc (suc k) + 1 = omega arith in
    ap (λ i. is_set (twos a * 2 ^ 2) i) e ∙ has_shl (twos a) 2 k ∙ twos_at a k
    ∙ ap₂ (λ (i j : ℕ). pad (is_set a) i || pad (is_set a) j) f g

fours_at : (a k : ℕ) → is_set (fours a) k ≡ four (pad (is_set a)) (k + 1)
fours_at a k =
    has_or (twos a) (twos a * 2 ^ 2) k ∙ ap₂ (λ (x y : Bool). x || y) (twos_at a k) (twice_at a k)
    ∙ simp add_assoc (or_turn (pad (is_set a) (k + 4)) (pad (is_set a) (k + 3)) (pad (is_set a) (k + 2)) (pad (is_set a) (k + 1)))

crowded_at : (a k : ℕ) → is_set (crowded a) k ≡ (four (pad (is_set a)) k && four (pad (is_set a)) (k + 11))
crowded_at a zero = has_shl_below (bit_and (fours a) (fours a / 2 ^ 11)) 1 0 (omega arith)
crowded_at a (suc k) =
    let e : suc k ≡ k + 1 = omega arith in
    let f : k + 11 + 1 ≡ suc k + 11 = omega arith in
    ap (λ i. is_set (crowded a) i) e ∙ has_shl (bit_and (fours a) (fours a / 2 ^ 11)) 1 k
    ∙ has_and (fours a) (fours a / 2 ^ 11) k
    ∙ ap₂ (λ (x y : Bool). x && y)
    (fours_at a k ∙ ap (four (pad (is_set a))) (sym e))
    (has_shr (fours a) 11 k ∙ fours_at a (k + 11) ∙ ap (four (pad (is_set a))) f)

shape_test : (a b c d e f g : Bool) → ((differ a b && differ b c) && (differ e f && differ f g)) && (a && not (differ c d || differ d e)) ≡ (((a && c) && (e && g)) && d) && not (b || f)
shape_test a b c d e f g = grind (arith, nat_tests)

shapes_at : (a k : ℕ) → is_set (shapes a) k ≡ ((((is_set a k && is_set a (k + 2)) && (is_set a (k + 4) && is_set a (k + 6))) && is_set a (k + 3)) && not (is_set a (k + 1) || is_set a (k + 5)))
shapes_at a k = simp (has_and, has_without, has_or, has_xor, has_shr, add_assoc) (shape_test (is_set a k) (is_set a (k + 1)) (is_set a (k + 2)) (is_set a (k + 3)) (is_set a (k + 4)) (is_set a (k + 5)) (is_set a (k + 6)))

forms_at : (a k : ℕ) → is_set (forms a) k ≡ ((((((is_set a k && is_set a (k + 2)) && (is_set a (k + 4) && is_set a (k + 6))) && is_set a (k + 3)) && not (is_set a (k + 1) || is_set a (k + 5))) && not (four (pad (is_set a)) k && four (pad (is_set a)) (k + 11))))
forms_at a k = has_without (shapes a) (crowded a) k ∙ ap₂ (λ (x y : Bool). x && not y) (shapes_at a k) (crowded_at a k)

forms_above : (a n k : ℕ) → a < 2 ^ n → n - 6 ≤ k → is_set (forms a) k ≡ false
forms_above a n k w h =
    forms_at a k ∙ ap (λ t. ((((is_set a k && is_set a (k + 2)) && (is_set a (k + 4) && t)) && is_set a (k + 3)) && not (is_set a (k + 1) || is_set a (k + 5))) && not (four (pad (is_set a)) k && four (pad (is_set a)) (k + 11))) (has_above a n (k + 6) w (omega arith))
    ∙ last_false (is_set a k && is_set a (k + 2)) (is_set a (k + 4)) (is_set a (k + 3)) (not (is_set a (k + 1) || is_set a (k + 5))) (not (four (pad (is_set a)) k && four (pad (is_set a)) (k + 11)))

pub finders_of : (a n : ℕ) → a < 2 ^ n → 40 * count_ones (forms a) ≡ finder_penalty n (is_set a)
unfolding finder_penalty finder_penalty_at is_finder_like
finders_of a n w =
    weigh_places 40 (forms a) (λ k. is_finder_like (is_set a) k && (is_light_from n (is_set a) (k - 4) (k - (k - 4)) || is_light_from n (is_set a) (k + 7) 4)) (n - 6)
    (λ k h. forms_at a k ∙ finder_at (is_set a) n (λ j l. has_above a n j w l) k)
    (λ k h. forms_above a n k w h)

-- the room that these words need
twos_below : (a w : ℕ) → a < 2 ^ w → twos a < 2 ^ (w + 1)
twos_below a w h = or_lt (w + 1) a (a * 2 ^ 1) (omega (arith, h, pow_below w (w + 1) (omega arith))) (fits_up a w 1 (w + 1) h (omega arith))

pub twos_room : (a w room : ℕ) → w + 3 ≤ room → a < 2 ^ w → twos a * 2 ^ 2 < 2 ^ room
twos_room a w room k h = fits_up (twos a) (w + 1) 2 room (twos_below a w h) (omega arith)

pub crowded_room : (a w room : ℕ) → w + 3 ≤ room → a < 2 ^ w → crowded a < 2 ^ room
crowded_room a w room k h =
    let wide : 2 ^ (w + 1) ≤ 2 ^ room = pow_mono (omega arith) in
    let below : twos a < 2 ^ room = omega (arith, twos_below a w h, wide) in
    let most : fours a < 2 ^ room = or_lt room (twos a) (twos a * 2 ^ 2) below (twos_room a w room k h) in
    omega (arith, most, and_le_r (fours a) (fours a / 2 ^ 11))
