-- Ranges of the data one after the other, and which modes can write them.
use Rattle.std.proofs.Common.{◌≡◌, ℕ, zero, suc, ◌-◌, ◌*◌, ◌<◌, ◌≤◌, nat_lt, Bool, true, List, [], ◌∷◌, ◌++◌, length, take, drop, refl, sym, ap, ◌∙◌, arith, true≢false}
use Rattle.std.specs.Prelude.{slice_range}
use Rattle.std.specs.List.{list_all, AllByRecursion}
use Rattle.std.proofs.lemmas.Bool.{and_parts, and_from}
use Rattle.std.proofs.lemmas.List.{length-take-le, length-drop}
use Rattle.qrcode_types.specs.declared.types.Mode.{Mode}
use Rattle.qrcode_types.specs.declared.types.Mode.TheVariants.{Numeric, Alphanumeric, Byte, Kanji}
use Rattle.qrcode_types.specs.Characters.{is_digit, is_alphanumeric, is_kanji, are_kanji, can_write, bytes_each}
use Rattle.qrcode_bits.specs.Segments.{Tile}
use Rattle.qrcode_bits.specs.declared.optimize.Segment.{Segment}

pub length-range : (xs : List ℕ) (a b : ℕ) → a ≤ b → b ≤ length xs → length (slice_range xs a b) ≡ b - a
length-range xs a b h k = length-take-le (b - a) (drop a xs) (omega (arith, length-drop a xs))

pub tile_le : (from : ℕ) (ss : List Segment) (to : ℕ) → Tile from ss to → from ≤ to
tile_le from [] to t = omega arith
tile_le from (s ∷ ss) to t = omega (arith, t.0, t.1.0, tile_le s.end ss to t.1.1)

-- one more segment after those that cover a range
pub tile-push : (from : ℕ) (ss : List Segment) (s : Segment) → Tile from ss s.begin → s.begin < s.end → Tile from (ss ++ s ∷ []) s.end
tile-push from [] s t some = (sym t, (some, refl))
tile-push from (r ∷ ss) s t some = (t.0, (t.1.0, tile-push r.end ss s t.1.1 some))

pub all-append : {X : Type 0} (P : X → Type 0) (xs ys : List X) → AllByRecursion P xs → AllByRecursion P ys → AllByRecursion P (xs ++ ys)
all-append P [] ys a b = b
all-append P (x ∷ xs) ys a b = (a.0, all-append P xs ys a.1 b)

pub all-drop : {X : Type 0} (P : X → Type 0) (n : ℕ) (xs : List X) → AllByRecursion P xs → AllByRecursion P (drop n xs)
all-drop P zero xs a = a
all-drop P (suc n) [] a = a
all-drop P (suc n) (x ∷ xs) a = all-drop P n xs a.1

list_all_both : (p : ℕ → Bool) (a b : List ℕ) → list_all p a ≡ true → list_all p b ≡ true → list_all p (a ++ b) ≡ true
list_all_both p [] b h k = k
list_all_both p (x ∷ a) b h k = let r = and_parts (p x) (list_all p a) h in and_from (p x) (list_all p (a ++ b)) r.0 (list_all_both p a b r.1 k)

kanji_both : (a b : List ℕ) → are_kanji a ≡ true → are_kanji b ≡ true → are_kanji (a ++ b) ≡ true
kanji_both [] b h k = k
kanji_both (x ∷ []) b h k = absurd (true≢false (sym h))
kanji_both (x ∷ y ∷ a) b h k = let r = and_parts (is_kanji x y) (are_kanji a) h in and_from (is_kanji x y) (are_kanji (a ++ b)) r.0 (kanji_both a b r.1 k)

pub write_both : (m : Mode) (a b : List ℕ) → can_write m a ≡ true → can_write m b ≡ true → can_write m (a ++ b) ≡ true
write_both Numeric a b h k = list_all_both is_digit a b h k
write_both Alphanumeric a b h k = list_all_both is_alphanumeric a b h k
write_both Byte a b h k = list_all_both (λ b. nat_lt b 256) a b h k
write_both Kanji a b h k = kanji_both a b h k

pub write_none : (m : Mode) → can_write m [] ≡ true
write_none Numeric = refl
write_none Alphanumeric = refl
write_none Byte = refl
write_none Kanji = refl

list_all_front : (p : ℕ → Bool) (n : ℕ) (a : List ℕ) → list_all p a ≡ true → list_all p (take n a) ≡ true
list_all_front p zero a h = refl
list_all_front p (suc n) [] h = refl
list_all_front p (suc n) (x ∷ a) h = let r = and_parts (p x) (list_all p a) h in and_from (p x) (list_all p (take n a)) r.0 (list_all_front p n a r.1)

take-nil : (n : ℕ) → take {A = ℕ} n [] ≡ []
take-nil zero = refl
take-nil (suc n) = refl

kanji_front : (n : ℕ) (a : List ℕ) → are_kanji a ≡ true → are_kanji (take (n * 2) a) ≡ true
kanji_front zero a h = refl
kanji_front (suc n) [] h = ap are_kanji (take-nil (suc n * 2))
kanji_front (suc n) (x ∷ []) h = absurd (true≢false (sym h))
kanji_front (suc n) (x ∷ y ∷ a) h =
    let r = and_parts (is_kanji x y) (are_kanji a) h in
    let e : suc n * 2 ≡ suc (suc (n * 2)) = omega arith in
    ap (λ k. are_kanji (take k (x ∷ y ∷ a))) e ∙ and_from (is_kanji x y) (are_kanji (take (n * 2) a)) r.0 (kanji_front n a r.1)

-- a mode that can write bytes can write their first characters
pub write_front : (m : Mode) (n : ℕ) (a : List ℕ) → can_write m a ≡ true → can_write m (take (n * bytes_each m) a) ≡ true
write_front Numeric n a h = list_all_front is_digit (n * 1) a h
write_front Alphanumeric n a h = list_all_front is_alphanumeric (n * 1) a h
write_front Byte n a h = list_all_front (λ b. nat_lt b 256) (n * 1) a h
write_front Kanji n a h = kanji_front n a h
