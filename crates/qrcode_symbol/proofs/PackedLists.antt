-- Packed lists, bit by bit.
use Rattle.std.proofs.Common.{◌≡◌, ℕ, zero, suc, ◌+◌, ◌-◌, ◌*◌, ◌/◌, ◌%◌, ◌^◌, ◌<◌, ◌≤◌, Bool, true, false, ◌==◌, List, [], ◌∷◌, length, take, drop, get_or, set, map, cond, replicate, below_more, refl, ap, sym, ◌∙◌, arith, min, mul_assoc, mul_comm, length-drop, drop-drop}
use Rattle.std.proofs.lemmas.Nat.{pow_pos, mod_low}
use Rattle.std.specs.Int.{bit_at}
use Rattle.std.proofs.lemmas.Nat.Bits.{bit_at_lowest, bit_at-suc}
use Rattle.std.proofs.lemmas.List.{get_or-set_same, get_or-set_other, length-replicate, get_or-replicate}
use Rattle.std.proofs.Math.ListN.{length-set}
use Rattle.std.proofs.lemmas.Bool.Decides.{nat_tests}
use lib.Lanes.{mask_l}
use Rattle.qrcode_penalty.specs.Rows.{is_set}
use Rattle.qrcode_symbol.specs.Masking.{digit, packed}

pub digit_le : (b : Bool) → digit b ≤ 1
digit_le b = grind (arith, nat_tests)

pub packed_lt : {A : Type 0} (f : A → Bool) (xs : List A) (n : ℕ) → length xs ≤ n → packed f xs < 2 ^ n
packed_lt f [] n h = pow_pos n
packed_lt f (x ∷ xs) zero h = absurd (omega arith)
packed_lt f (x ∷ xs) (suc n) h =
    let below : packed f xs < 2 ^ n = packed_lt f xs n (omega arith) in
    let twice : 2 ^ suc n ≡ 2 ^ n + 2 ^ n = grind arith in
    let bit : digit (f x) ≤ 1 = digit_le (f x) in
    omega arith

cut_step : (p d t q r b : ℕ) → p ≡ d * q + t → r ≡ 2 * q → 2 * p + b ≡ d * r + (2 * t + b)
cut_step p d t q r b e h =
    let far : d * r ≡ 2 * (d * q) = ap (λ n. d * n) h ∙ sym (mul_assoc d 2 q) ∙ ap (λ n. n * q) (mul_comm d 2) ∙ mul_assoc 2 d q in
    omega (arith, e, far)

pub packed_cut : {A : Type 0} (f : A → Bool) (n : ℕ) (xs : List A) → packed f xs ≡ packed f (drop n xs) * 2 ^ n + packed f (take n xs)
packed_cut f zero xs = grind arith
packed_cut f (suc n) [] = omega arith
packed_cut f (suc n) (x ∷ xs) =
    let twice : 2 ^ suc n ≡ 2 * 2 ^ n = grind arith in
    cut_step (packed f xs) (packed f (drop n xs)) (packed f (take n xs)) (2 ^ n) (2 ^ suc n) (digit (f x)) (packed_cut f n xs) twice

has_digit : (n : ℕ) (b : Bool) → is_set (2 * n + digit b) 0 ≡ b
unfolding is_set
has_digit n true = let e : (2 * n + 1) % 2 ≡ 1 = omega arith in ap (λ x. x == 1) (bit_at_lowest (2 * n + 1) ∙ e)
has_digit n false = let e : (2 * n + 0) % 2 ≡ 0 = omega arith in ap (λ x. x == 1) (bit_at_lowest (2 * n + 0) ∙ e)

has_twice : (n : ℕ) (b : Bool) (k : ℕ) → is_set (2 * n + digit b) (suc k) ≡ is_set n k
unfolding is_set
has_twice n b k =
    let small : digit b ≤ 1 = digit_le b in
    let half : (2 * n + digit b) / 2 ≡ n = omega arith in
    ap (λ x. x == 1) (bit_at-suc (2 * n + digit b) k ∙ ap (λ m. bit_at m k) half)

pub has_packed : {A : Type 0} (f : A → Bool) (xs : List A) (k : ℕ) (d : A) → k < length xs → is_set (packed f xs) k ≡ f (get_or xs k d)
has_packed f [] k d h = absurd (omega arith)
has_packed f (x ∷ xs) zero d h = has_digit (packed f xs) (f x)
has_packed f (x ∷ xs) (suc k) d h = has_twice (packed f xs) (f x) k ∙ has_packed f xs k d (omega arith)

take_same : {A : Type 0} (xs : List A) (m n : ℕ) → min (length xs) m ≡ min (length xs) n → take m xs ≡ take n xs
take_same [] zero zero h = refl
take_same [] zero (suc n) h = refl
take_same [] (suc m) zero h = refl
take_same [] (suc m) (suc n) h = refl
take_same (x ∷ xs) zero zero h = refl
take_same (x ∷ xs) zero (suc n) h = absurd (omega arith)
take_same (x ∷ xs) (suc m) zero h = absurd (omega arith)
take_same (x ∷ xs) (suc m) (suc n) h = ap (λ ys. x ∷ ys) (take_same xs m n (omega arith))

drop_same : {A : Type 0} (xs : List A) (m n : ℕ) → min (length xs) m ≡ min (length xs) n → drop m xs ≡ drop n xs
drop_same [] zero zero h = refl
drop_same [] zero (suc n) h = refl
drop_same [] (suc m) zero h = refl
drop_same [] (suc m) (suc n) h = refl
drop_same (x ∷ xs) zero zero h = refl
drop_same (x ∷ xs) zero (suc n) h = absurd (omega arith)
drop_same (x ∷ xs) (suc m) zero h = absurd (omega arith)
drop_same (x ∷ xs) (suc m) (suc n) h = drop_same xs m n (omega arith)

take_all : {A : Type 0} (xs : List A) (n : ℕ) → length xs ≤ n → take n xs ≡ xs
take_all [] zero h = refl
take_all [] (suc n) h = refl
take_all (x ∷ xs) zero h = absurd (omega arith)
take_all (x ∷ xs) (suc n) h = ap (λ ys. x ∷ ys) (take_all xs n (omega arith))

-- a list of up to 192 results in three words
packed_words : {A : Type 0} (f : A → Bool) (xs : List A) →
    (packed f (take (length xs - min (length xs) 128) (drop (min (length xs) 128) xs)) * 2 ^ 64 + packed f (take (min (length xs) 128 - min (length xs) 64) (drop (min (length xs) 64) xs))) * 2 ^ 64 + packed f (take (min (length xs) 64) xs) ≡ packed f xs
packed_words f xs =
    let low : packed f (take (min (length xs) 64) xs) ≡ packed f (take 64 xs) = ap (packed f) (take_same xs (min (length xs) 64) 64 (omega arith)) in
    let behind : drop (min (length xs) 64) xs ≡ drop 64 xs = drop_same xs (min (length xs) 64) 64 (omega arith) in
    let middle : packed f (take (min (length xs) 128 - min (length xs) 64) (drop (min (length xs) 64) xs)) ≡ packed f (take 64 (drop 64 xs)) =
    ap (λ ys. packed f (take (min (length xs) 128 - min (length xs) 64) ys)) behind
    ∙ ap (packed f) (take_same (drop 64 xs) (min (length xs) 128 - min (length xs) 64) 64 (omega (arith, length-drop 64 xs))) in
    let high : packed f (take (length xs - min (length xs) 128) (drop (min (length xs) 128) xs)) ≡ packed f (drop 64 (drop 64 xs)) = ap (packed f) (take_all (drop (min (length xs) 128) xs) (length xs - min (length xs) 128) (omega (arith, length-drop (min (length xs) 128) xs)) ∙ drop_same xs (min (length xs) 128) 128 (omega arith) ∙ sym (drop-drop 64 64 xs)) in
    omega (arith, low, middle, high, packed_cut f 64 xs, packed_cut f 64 (drop 64 xs))

-- with enough room for the list
pub packed_in_room : {A : Type 0} (f : A → Bool) (xs : List A) (room : ℕ) → length xs ≤ room →
    ((packed f (take (length xs - min (length xs) 128) (drop (min (length xs) 128) xs)) * 2 ^ 64 + packed f (take (min (length xs) 128 - min (length xs) 64) (drop (min (length xs) 64) xs))) * 2 ^ 64 + packed f (take (min (length xs) 64) xs)) % 2 ^ room ≡ packed f xs
packed_in_room f xs room h =
    let e : packed f xs ≡ 0 * 2 ^ room + packed f xs = omega arith in
    ap (λ n. n % 2 ^ room) (packed_words f xs ∙ e) ∙ mod_low 0 room (packed f xs) (packed_lt f xs room h)

one_digit : (b : Bool) → (digit b == 1) ≡ b
one_digit b = grind (arith, nat_tests)

none_packed : (bytes : List ℕ) → ((k : ℕ) → k < length bytes → get_or bytes k 0 ≡ 0) → packed (λ n. n == 1) bytes ≡ 0
none_packed [] zeros = refl
none_packed (b ∷ bytes) zeros =
    let here : digit (b == 1) ≡ 0 = ap (λ n. digit (n == 1)) (zeros 0 (omega arith)) in
    omega (arith, here, none_packed bytes (λ k h. zeros (suc k) (omega arith)))

-- the first n bytes are the results of a test for the first n items, the others are zero
pub record AreAnswers {A : Type 0} (f : A → Bool) (d : A) (xs : List A) (bytes : List ℕ) (n : ℕ) : Type 0 where
  pub length : length bytes ≡ 64
  pub answers : (k : ℕ) → k < n → get_or bytes k 0 ≡ digit (f (get_or xs k d))
  pub zeros : (k : ℕ) → n ≤ k → k < 64 → get_or bytes k 0 ≡ 0

pub answers_none : {A : Type 0} (f : A → Bool) (d : A) (xs : List A) → AreAnswers f d xs (replicate 64 0) 0
answers_none f d xs = record { length = length-replicate 64 zero; answers = λ k h. absurd (omega arith); zeros = λ k h l. get_or-replicate 64 k zero zero l }

-- one more result
pub answers_more : {A : Type 0} (f : A → Bool) (d : A) (xs : List A) (bytes : List ℕ) (n b : ℕ) → n < 64 → b ≡ digit (f (get_or xs n d)) → AreAnswers f d xs bytes n → AreAnswers f d xs (set bytes n b) (n + 1)
answers_more f d xs bytes n b h e so_far = record {
  length = length-set bytes n b ∙ so_far.length;
  answers = below_more (λ k. get_or (set bytes n b) k 0 ≡ digit (f (get_or xs k d))) n
      (λ k l. get_or-set_other bytes n k b 0 (λ e. absurd (omega arith)) ∙ so_far.answers k l)
      (get_or-set_same bytes n b 0 (omega (arith, so_far.length)) ∙ e);
  zeros = λ k l m. get_or-set_other bytes n k b 0 (λ e. absurd (omega arith)) ∙ so_far.zeros k (omega arith) m;
}

packed_bytes : {A : Type 0} (f : A → Bool) (d : A) (xs : List A) (bytes : List ℕ) → length xs ≤ length bytes →
    ((k : ℕ) → k < length xs → get_or bytes k 0 ≡ digit (f (get_or xs k d))) → ((k : ℕ) → length xs ≤ k → k < length bytes → get_or bytes k 0 ≡ 0) →
    packed (λ n. n == 1) bytes ≡ packed f xs
packed_bytes f d [] bytes fits answers zeros = none_packed bytes (λ k h. zeros k (omega arith) h)
packed_bytes f d (x ∷ xs) [] fits answers zeros = absurd (omega arith)
packed_bytes f d (x ∷ xs) (b ∷ bytes) fits answers zeros =
    let here : digit (b == 1) ≡ digit (f x) = ap (λ n. digit (n == 1)) (answers 0 (omega arith)) ∙ ap digit (one_digit (f x)) in
    let rest = packed_bytes f d xs bytes (omega arith) (λ k h. answers (suc k) (omega arith)) (λ k h l. zeros (suc k) (omega arith) (omega arith)) in
    omega (arith, here, rest)

-- the results for all items, packed
pub packed_answers : {A : Type 0} (f : A → Bool) (d : A) (xs : List A) (bytes : List ℕ) (n : ℕ) → length xs ≤ 64 → n ≡ length xs → AreAnswers f d xs bytes n → packed (λ n. n == 1) bytes ≡ packed f xs
packed_answers f d xs bytes n h e are =
    packed_bytes f d xs bytes (omega (arith, are.length)) (λ k l. are.answers k (omega arith)) (λ k l m. are.zeros k (omega arith) (omega (arith, are.length)))

-- the number that a vector's mask makes of the results
pub packed_lanes : {A : Type 0} (f : A → Bool) (xs : List A) → mask_l (map f xs) ≡ packed f xs
packed_lanes f [] = refl
packed_lanes f (x ∷ xs) = one_more (f x) (packed_lanes f xs) where
  one_more : (b : Bool) → mask_l (map f xs) ≡ packed f xs → cond b 1 0 + 2 * mask_l (map f xs) ≡ 2 * packed f xs + digit b
  one_more true e = omega (arith, e)
  one_more false e = omega (arith, e)
