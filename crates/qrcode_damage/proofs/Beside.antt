-- Codewords that differ are touched by the area or wrong beside it.
use Rattle.std.proofs.Common.{◌≡◌, ℕ, zero, suc, ◌+◌, ◌<◌, ◌≤◌, ◌||◌, ◌==◌, eqb, Bool, true, false, not, cond, List, [], ◌∷◌, ◌++◌, length, map, refl, sym, ap, ap₂, ◌∙◌, arith, true≢false, inl, inr}
use Rattle.std.specs.List.{count_by, AllByRecursion, AllZip, range_with_len}
use Rattle.std.proofs.lemmas.Bool.{cases_eq, eq-eqb, ne_eqb}
use Rattle.std.proofs.lemmas.List.Sums.{sum_by-cons}
use Rattle.qrcode_types.specs.Bits.{bit_distance}
use Rattle.qrcode_ec.specs.Codes.{distance}
use Rattle.qrcode_layout.specs.Masks.{turned_if}
use Rattle.qrcode_damage.specs.Areas.{differing_beside}

pub count-cons : {X : Type 0} (p : X → Bool) (x : X) (xs : List X) → count_by p (x ∷ xs) ≡ cond (p x) 1 0 + count_by p xs
count-cons p x xs = sum_by-cons (λ x. cond {A = ℕ} (p x) 1 0) x xs

abbrev pub counted : List ℕ → ℕ
counted marks = count_by (λ word. not (word == 0)) marks

one : (m x y : ℕ) → cond {A = ℕ} (eqb x y) 0 1 ≤ cond {A = ℕ} (not (eqb m 0)) 1 0 + cond {A = ℕ} (eqb m 0) (cond (eqb x y) 0 1) 0
one m x y = go (eqb m 0) (eqb x y) where
  go : (b c : Bool) → cond {A = ℕ} c 0 1 ≤ cond {A = ℕ} (not b) 1 0 + cond {A = ℕ} b (cond c 0 1) 0
  go true true = omega arith
  go true false = omega arith
  go false true = omega arith
  go false false = omega arith

-- two blocks differ in no more codewords than are marked or differ beside the marks
pub distance_at_most : (marks words others : List ℕ) → length words ≡ length marks → distance words others ≤ counted marks + differing_beside marks words others
distance_at_most marks [] others e = omega arith
distance_at_most marks (x ∷ xs) [] e = omega arith
distance_at_most [] (x ∷ xs) (y ∷ ys) e = absurd (omega arith)
distance_at_most (m ∷ marks) (x ∷ xs) (y ∷ ys) e = omega (arith, count-cons (λ (word : ℕ). not (word == 0)) m marks, one m x y, distance_at_most marks xs ys (omega arith))

-- nothing differs beside the marks, if each unmarked codeword is the same
none_beside : (m x y : ℕ) → (m ≡ 0 → x ≡ y) → cond {A = ℕ} (eqb m 0) (cond (eqb x y) 0 1) 0 ≡ 0
none_beside m x y h = elim (cases_eq m 0) [
  | inl z ↦ ap (λ b. cond {A = ℕ} (eqb m 0) (cond b 0 1) 0) (eq-eqb x y (h z)) ∙ go (eqb m 0)
  | inr n ↦ ap (λ b. cond {A = ℕ} b (cond (eqb x y) 0 1) 0) (ne_eqb m 0 n)
] where
  go : (b : Bool) → cond {A = ℕ} b 0 0 ≡ 0
  go true = refl
  go false = refl

pub beside_maps : (h f g : ℕ → ℕ) (ms xs ys : List ℕ) (places : List ℕ) → ((n : ℕ) → h n ≡ 0 → f n ≡ g n) → differing_beside ms xs ys ≡ 0
    → differing_beside (map h places ++ ms) (map f places ++ xs) (map g places ++ ys) ≡ 0
beside_maps h f g ms xs ys [] e rest = rest
beside_maps h f g ms xs ys (n ∷ places) e rest = omega (arith, none_beside (h n) (f n) (g n) (e n), beside_maps h f g ms xs ys places e rest)

-- all marked codewords differ, if each equal one is unmarked
all_differ : (m x y : ℕ) → (x ≡ y → m ≡ 0) → cond {A = ℕ} (not (eqb m 0)) 1 0 ≤ cond {A = ℕ} (eqb x y) 0 1
all_differ m x y h = elim (cases_eq x y) [
  | inl e ↦ omega (arith, ap (λ b. cond {A = ℕ} (not b) 1 0) (eq-eqb m 0 (h e)), go (eqb x y))
  | inr n ↦ omega (arith, ap (λ b. cond {A = ℕ} b 0 1) (ne_eqb x y n), go (not (eqb m 0)))
] where
  go : (b : Bool) → cond {A = ℕ} b 1 0 ≤ 1
  go true = omega arith
  go false = omega arith

pub counted_maps : (h f g : ℕ → ℕ) (ms xs ys : List ℕ) (places : List ℕ) → ((n : ℕ) → f n ≡ g n → h n ≡ 0) → counted ms ≤ distance xs ys
    → counted (map h places ++ ms) ≤ distance (map f places ++ xs) (map g places ++ ys)
counted_maps h f g ms xs ys [] e rest = rest
counted_maps h f g ms xs ys (n ∷ places) e rest =
    omega (arith, count-cons (λ (word : ℕ). not (word == 0)) (h n) (map h places ++ ms), all_differ (h n) (f n) (g n) (e n), counted_maps h f g ms xs ys places e rest)

-- at least as many bits differ as places are marked, if each equal one is unmarked
pub bits_at_least : {X : Type 0} (m f g : X → Bool) (places : List X) → AllByRecursion (λ p. f p ≡ g p → m p ≡ false) places
    → count_by m places ≤ bit_distance (map f places) (map g places)
bits_at_least m f g [] h = omega arith
bits_at_least m f g (p ∷ places) h = omega (arith, count-cons m p places, go (m p) (f p) (g p) h.0, bits_at_least m f g places h.1) where
  go : (a b c : Bool) → (b ≡ c → a ≡ false) → cond {A = ℕ} a 1 0 ≤ cond {A = ℕ} b (cond c 0 1) (cond c 1 0)
  go true true true h = absurd (true≢false (h refl))
  go true true false h = omega arith
  go true false true h = omega arith
  go true false false h = absurd (true≢false (h refl))
  go false true true h = omega arith
  go false true false h = omega arith
  go false false true h = omega arith
  go false false false h = omega arith

-- at most as many bits differ as places are marked or differ
pub bits_at_most : {X : Type 0} (m f g : X → Bool) (places : List X) → bit_distance (map f places) (map g places) ≤ count_by (λ p. m p || turned_if (f p) (g p)) places
bits_at_most m f g [] = omega arith
bits_at_most m f g (p ∷ places) = omega (arith, count-cons (λ p. m p || turned_if (f p) (g p)) p places, go (m p) (f p) (g p), bits_at_most m f g places) where
  go : (a b c : Bool) → cond {A = ℕ} b (cond c 0 1) (cond c 1 0) ≤ cond {A = ℕ} (a || turned_if b c) 1 0
  go true true true = omega arith
  go true true false = omega arith
  go true false true = omega arith
  go true false false = omega arith
  go false true true = omega arith
  go false true false = omega arith
  go false false true = omega arith
  go false false false = omega arith

pub count_same : {X : Type 0} (p q : X → Bool) (xs : List X) → AllByRecursion (λ x. p x ≡ q x) xs → count_by p xs ≡ count_by q xs
count_same p q [] h = refl
count_same p q (x ∷ xs) h = count-cons p x xs ∙ ap₂ (λ m n. m + n) (ap (λ b. cond {A = ℕ} b 1 0) h.0) (count_same p q xs h.1) ∙ sym (count-cons q x xs)

pub zip_range : {X : Type 0} (R : X → X → Type 0) (f g : ℕ → X) (a n : ℕ) → ((b : ℕ) → b < a + n → R (f b) (g b)) → AllZip R (map f (range_with_len a n)) (map g (range_with_len a n))
zip_range R f g a zero h = tt
zip_range R f g a (suc n) h = (h a (omega arith), zip_range R f g (a + 1) n (λ b l. h b (omega arith)))

pub all_with : {X : Type 0} (P Q S : X → Type 0) (xs : List X) → ((x : X) → P x → Q x → S x) → AllByRecursion P xs → AllByRecursion Q xs → AllByRecursion S xs
all_with P Q S [] h p q = tt
all_with P Q S (x ∷ xs) h p q = (h x p.0 q.0, all_with P Q S xs h p.1 q.1)

pub all_mapped : {X : Type 0} (P Q : X → Type 0) (xs : List X) → ((x : X) → P x → Q x) → AllByRecursion P xs → AllByRecursion Q xs
all_mapped P Q [] h p = tt
all_mapped P Q (x ∷ xs) h p = (h x p.0, all_mapped P Q xs h p.1)
