-- What differs is what is flipped: counts along lists of places.
use Rattle.std.proofs.Common.{◌≡◌, ℕ, zero, suc, ◌+◌, ◌<◌, ◌==◌, Bool, true, false, not, cond, ◌&&◌, List, [], ◌∷◌, length, map, get_or, refl, sym, ap, ap₂, ◌∙◌, arith}
use Rattle.std.specs.List.{count_by, AllByRecursion, AllZip, filter, list_all, range_with_len}
use Rattle.std.proofs.lemmas.Bool.{and_parts, not-true}
use Rattle.std.proofs.lemmas.Bool.Decides.{nat_tests}
use Rattle.qrcode_types.specs.Bits.{bit_distance}
use Rattle.qrcode_layout.specs.Masks.{turned_if}
use Rattle.qrcode_damage.proofs.Beside.{count-cons}
use Rattle.qrcode_damage.specs.Flips.{count_wrong}
use Rattle.qrcode_damage.specs.Errors.{is_set}

-- exactly the flipped bits differ
flipped_differs : (a b : Bool) → cond {A = ℕ} b (cond (turned_if a b) 0 1) (cond (turned_if a b) 1 0) ≡ cond {A = ℕ} a 1 0
flipped_differs a b = grind (arith, nat_tests)

pub bits_flipped : {X : Type 0} (m f g : X → Bool) (places : List X) → AllByRecursion (λ p. g p ≡ turned_if (m p) (f p)) places
    → bit_distance (map f places) (map g places) ≡ count_by m places
bits_flipped m f g [] h = refl
bits_flipped m f g (p ∷ places) h =
    ap₂ (λ x y. x + y) (ap (λ c. cond {A = ℕ} (f p) (cond c 0 1) (cond c 1 0)) h.0 ∙ flipped_differs (m p) (f p)) (bits_flipped m f g places h.1) ∙ sym (count-cons m p places)

-- places that take their bits from a list, one after the other
counted_from : {X : Type 0} (m : X → Bool) (place : ℕ → X) (a : ℕ) (xs : List ℕ) → ((i : ℕ) → i < length xs → m (place (a + i)) ≡ is_set xs i)
    → count_by m (map place (range_with_len a (length xs))) ≡ count_wrong xs
counted_from m place a [] h = refl
counted_from m place a (x ∷ xs) h =
    let first : a + 0 ≡ a = omega arith in
    count-cons m (place a) (map place (range_with_len (a + 1) (length xs)))
    ∙ ap₂ (λ (b : Bool) (n : ℕ). cond {A = ℕ} b 1 0 + n)
    (ap (λ n. m (place n)) (sym first) ∙ h 0 (omega arith))
    (counted_from m place (a + 1) xs (λ i below. let next : a + 1 + i ≡ a + suc i = omega arith in ap (λ n. m (place n)) next ∙ h (suc i) (omega arith)))
    ∙ sym (count-cons (λ (word : ℕ). not (word == 0)) x xs)

pub counted_along : {X : Type 0} (m : X → Bool) (place : ℕ → X) (n : ℕ) (xs : List ℕ) → length xs ≡ n → ((i : ℕ) → i < n → m (place i) ≡ is_set xs i)
    → count_by m (map place (range_with_len 0 n)) ≡ count_wrong xs
counted_along m place n xs long h =
    ap (λ k. count_by m (map place (range_with_len 0 k))) (sym long)
    ∙ counted_from m place 0 xs (λ i below. let first : 0 + i ≡ i = omega arith in ap (λ k. m (place k)) first ∙ h i (omega (arith, long, below)))

-- what holds along a list of places
pub all_along : {X : Type 0} (P : X → Type 0) (place : ℕ → X) (a n : ℕ) → ((i : ℕ) → i < a + n → P (place i)) → AllByRecursion P (map place (range_with_len a n))
all_along P place a zero h = tt
all_along P place a (suc n) h = (h a (omega arith), all_along P place (a + 1) n (λ i below. h i (omega arith)))

-- what passes a filter and is flipped
pub count_filtered : {X : Type 0} (p m : X → Bool) (xs : List X) → count_by m (filter p xs) ≡ count_by (λ x. p x && m x) xs
count_filtered p m [] = refl
count_filtered {X} p m (x ∷ xs) =
    go (p x) ∙ ap (λ n. cond {A = ℕ} (p x && m x) 1 0 + n) (count_filtered p m xs) ∙ sym (count-cons (λ x. p x && m x) x xs) where
      go : (b : Bool) → count_by m (cond b (x ∷ filter p xs) (filter p xs)) ≡ cond {A = ℕ} (b && m x) 1 0 + count_by m (filter p xs)
      go true = count-cons m x (filter p xs)
      go false = omega arith

pub all_filtered : {X : Type 0} (P : X → Type 0) (p : X → Bool) (xs : List X) → AllByRecursion P xs → AllByRecursion P (filter p xs)
all_filtered P p [] h = tt
all_filtered {X} P p (x ∷ xs) h = go (p x) (all_filtered P p xs h.1) where
  go : (b : Bool) → AllByRecursion P (filter p xs) → AllByRecursion P (cond b (x ∷ filter p xs) (filter p xs))
  go true rest = (h.0, rest)
  go false rest = rest

-- what a filter leaves passes it
pub all_pass : {X : Type 0} (p : X → Bool) (xs : List X) → AllByRecursion (λ x. p x ≡ true) (filter p xs)
all_pass p [] = tt
all_pass {X} p (x ∷ xs) = go (p x) refl (all_pass p xs) where
  go : (b : Bool) → p x ≡ b → AllByRecursion (λ x. p x ≡ true) (filter p xs) → AllByRecursion (λ x. p x ≡ true) (cond b (x ∷ filter p xs) (filter p xs))
  go true e rest = (e, rest)
  go false e rest = rest

pub map_alike : {X Y : Type 0} (f g : X → Y) (xs : List X) → AllByRecursion (λ x. f x ≡ g x) xs → map f xs ≡ map g xs
map_alike f g [] h = refl
map_alike f g (x ∷ xs) h = ap₂ (λ y ys. y ∷ ys) h.0 (map_alike f g xs h.1)

pub zip_mapped : {X : Type 0} (R S : X → X → Type 0) (xs ys : List X) → ((x y : X) → R x y → S x y) → AllZip R xs ys → AllZip S xs ys
zip_mapped R S [] [] h all = tt
zip_mapped R S [] (y ∷ ys) h all = all
zip_mapped R S (x ∷ xs) [] h all = all
zip_mapped R S (x ∷ xs) (y ∷ ys) h all = (h x y all.0, zip_mapped R S xs ys h all.1)

-- no bit of a list of zeros is 1
pub none_at : (xs : List Bool) (i : ℕ) → list_all not xs ≡ true → get_or xs i false ≡ false
none_at [] i h = refl
none_at (x ∷ xs) zero h = not-true x (and_parts (not x) (list_all not xs) h).0
none_at (x ∷ xs) (suc i) h = none_at xs i (and_parts (not x) (list_all not xs) h).1
