-- Which modules of patterns are ahead, in the order in which loops come to them.
use mir.Val.{bool_byte}
use Rattle.std.proofs.Common.{◌≡◌, ℕ, zero, suc, ◌+◌, ◌-◌, ◌*◌, ◌/◌, ◌%◌, ◌<◌, ◌==◌, not, Bool, true, false, cond, List, [], ◌∷◌, ◌++◌, length, map, refl, sym, ap, ◌∙◌, arith}
use Rattle.std.proofs.lemmas.Bool.Decides.{nat_tests}
use Rattle.std.specs.List.{filter, range_with_len}
use Rattle.qrcode_types.specs.Versions.{side}
use Rattle.qrcode_types.specs.declared.types.Version.{Version}
use Rattle.qrcode_damage.specs.Damage.{module_place, is_pattern_place, pattern_places}
use Rattle.qrcode_damage.specs.Errors.{is_set}

-- those among n modules from module a on
abbrev among : Version → ℕ → ℕ → List (ℕ × ℕ)
among v a n = filter (λ (p : ℕ × ℕ). is_pattern_place v p.0 p.1) (map (module_place (side v)) (range_with_len a n))

abbrev pub ahead_of : Version → ℕ → ℕ  -- how many there are from module i on
ahead_of v i = length (among v i (side v * side v - i))

one_more : (v : Version) (a n : ℕ) → length (among v a (suc n)) ≡ cond (is_pattern_place v (a % side v) (a / side v)) 1 0 + length (among v (a + 1) n)
one_more v a n = go (is_pattern_place v (a % side v) (a / side v)) where
  go : (b : Bool) → length (cond b (module_place (side v) a ∷ among v (a + 1) n) (among v (a + 1) n)) ≡ cond b 1 0 + length (among v (a + 1) n)
  go true = omega arith
  go false = omega arith

pub ahead_next : (v : Version) (i w : ℕ) (b : Bool) → w ≡ side v → i < w * w → b ≡ is_pattern_place v (i % w) (i / w)
    → ahead_of v i ≡ cond b 1 0 + ahead_of v (i + 1)
ahead_next v i w b width below is =
    let n = side v * side v in
    let more : n - i ≡ suc (n - (i + 1)) = omega (arith, below, ap (λ k. k * k) width) in
    ap (λ k. length (among v i k)) more ∙ one_more v i (n - (i + 1))
    ∙ ap (λ t. cond {A = ℕ} t 1 0 + ahead_of v (i + 1)) (sym (is ∙ ap (λ k. is_pattern_place v (i % k) (i / k)) width))

pub ahead_all : (v : Version) → ahead_of v 0 ≡ length (pattern_places v)
unfolding pattern_places
ahead_all v = let all : side v * side v - 0 ≡ side v * side v = omega arith in ap (λ n. length (among v 0 n)) all

pub bit_as_number : (b : Bool) → bool_byte b ≡ cond b 1 0
bit_as_number b = grind (arith, nat_tests)

-- one byte more, which is zero where it must be
pub others_more : (p : ℕ → Bool) (bytes : List ℕ) (x : ℕ) → ((j : ℕ) → p j ≡ false → is_set bytes j ≡ false) → (p (length bytes) ≡ false → not (x == 0) ≡ false)
    → (j : ℕ) → p j ≡ false → is_set (bytes ++ x ∷ []) j ≡ false
others_more p [] x before h = λ j. at j where
  at : (j : ℕ) → p j ≡ false → is_set (x ∷ []) j ≡ false
  at zero none = h none
  at (suc j) none = refl
others_more p (b ∷ bytes) x before h = at (others_more (λ j. p (suc j)) bytes x (λ j. before (suc j)) h) where
  at : ((j : ℕ) → p (suc j) ≡ false → is_set (bytes ++ x ∷ []) j ≡ false) → (j : ℕ) → p j ≡ false → is_set (b ∷ (bytes ++ x ∷ [])) j ≡ false
  at rest zero = before 0
  at rest (suc j) = rest j
