-- The next bit of the codewords that are not drawn yet.
use Rattle.std.proofs.Common.{◌≡◌, ℕ, zero, suc, ◌+◌, ◌-◌, ◌*◌, ◌/◌, ◌<◌, ◌≤◌, Bool, true, false, cond, List, [], ◌∷◌, ◌++◌, length, get_or, take, drop, refl, ap, sym, ◌∙◌, arith, append_assoc, ◌⊎◌, inl, inr}
use Rattle.std.proofs.lemmas.Bool.Decides.{nat_tests}
use Rattle.qrcode_types.specs.Bits.{number_bits, bits_of, has_bit}

-- the next bit of a byte that is begun
pub begun_bit : (left begun : ℕ) (tail : List Bool) → 0 < left → number_bits left begun ++ tail ≡ has_bit begun (left - 1) ∷ (number_bits (left - 1) begun ++ tail)
unfolding number_bits
begun_bit zero begun tail h = absurd (omega arith)
begun_bit (suc n) begun tail h = let e : suc n - 1 ≡ n = omega arith in rw e refl

top_of : (m : ℕ) (byte : ℕ) (rest : List ℕ) → take (suc (suc (suc (suc (suc (suc (suc (suc m)))))))) (bits_of (byte ∷ rest)) ≡ number_bits 8 byte ++ take m (bits_of rest)
unfolding number_bits
top_of m byte rest = refl

-- the bits of a byte that is drawn whole
whole_byte : (n byte : ℕ) (rest : List ℕ) → 8 ≤ n → take n (bits_of (byte ∷ rest)) ≡ number_bits 8 byte ++ take (n - 8) (bits_of rest)
whole_byte n byte rest h =
    let e : n ≡ suc (suc (suc (suc (suc (suc (suc (suc (n - 8)))))))) = omega arith in
    ap (λ (k : ℕ). take k (bits_of (byte ∷ rest))) e ∙ top_of (n - 8) byte rest

high_bits : (byte : ℕ) → take 4 (bits_of (byte ∷ [])) ≡ has_bit byte 7 ∷ has_bit byte 6 ∷ has_bit byte 5 ∷ has_bit byte 4 ∷ []
unfolding number_bits
high_bits byte = refl

four_bits : (n : ℕ) → number_bits 4 n ≡ has_bit n 3 ∷ has_bit n 2 ∷ has_bit n 1 ∷ has_bit n 0 ∷ []
unfolding number_bits
four_bits n = refl

-- the bits of a half codeword
half_byte : (byte : ℕ) → take 4 (bits_of (byte ∷ [])) ≡ number_bits 4 (byte / 16)
half_byte byte =
    let a : has_bit (byte / 16) 3 ≡ has_bit byte 7 = grind (arith, nat_tests) in
    let b : has_bit (byte / 16) 2 ≡ has_bit byte 6 = grind (arith, nat_tests) in
    let d : has_bit (byte / 16) 1 ≡ has_bit byte 5 = grind (arith, nat_tests) in
    let e : has_bit (byte / 16) 0 ≡ has_bit byte 4 = grind (arith, nat_tests) in
    high_bits byte ∙ sym (four_bits (byte / 16) ∙ rw (a, b, d, e) refl)

-- the bits that are not drawn yet
abbrev pub bits_left : ℕ → ℕ → List ℕ → Bool → List ℕ → List Bool
bits_left left begun bytes half ec = number_bits left begun ++ (take (8 * length bytes - cond half 4 0) (bits_of bytes) ++ bits_of ec)

pub next_begun : (left begun : ℕ) (bytes : List ℕ) (half : Bool) (ec : List ℕ) → 0 < left → bits_left left begun bytes half ec ≡ has_bit begun (left - 1) ∷ bits_left (left - 1) begun bytes half ec
next_begun left begun bytes half ec h = begun_bit left begun (take (8 * length bytes - cond half 4 0) (bits_of bytes) ++ bits_of ec) h

nothing_begun : (left begun : ℕ) (tail : List Bool) → left ≡ 0 → number_bits left begun ++ tail ≡ tail
unfolding number_bits
nothing_begun left begun tail z = rw z refl

half_last : (left begun : ℕ) (bytes ec : List ℕ) → left ≡ 0 → 0 < length bytes → length (drop 1 bytes) ≡ 0
    → bits_left left begun bytes true ec ≡ bits_left 4 (get_or bytes 0 0 / 16) (drop 1 bytes) true ec
unfolding number_bits
half_last left begun [] ec z some last = absurd (omega arith)
half_last left begun (b ∷ []) ec z some last =
    let e : 8 * length (b ∷ []) - 4 ≡ 4 = omega arith in
    rw z (ap (λ (bits : List Bool). bits ++ bits_of ec) (ap (λ (k : ℕ). take k (bits_of (b ∷ []))) e ∙ half_byte b))
half_last left begun (b ∷ d ∷ bytes) ec z some last = absurd (omega arith)

-- beginning the next byte does not change them
pub begin_half : (left begun : ℕ) (bytes : List ℕ) (half : Bool) (ec : List ℕ) → left ≡ 0 → 0 < length bytes → half ≡ true → length (drop 1 bytes) ≡ 0
    → bits_left left begun bytes half ec ≡ bits_left 4 (get_or bytes 0 0 / 16) (drop 1 bytes) half ec
begin_half left begun bytes half ec z some is last = rw is (half_last left begun bytes ec z some last)

pub begin_whole : (left begun : ℕ) (bytes : List ℕ) (half : Bool) (ec : List ℕ) → left ≡ 0 → 0 < length bytes → half ≡ false ⊎ 0 < length (drop 1 bytes)
    → bits_left left begun bytes half ec ≡ bits_left 8 (get_or bytes 0 0) (drop 1 bytes) half ec
begin_whole left begun [] half ec z some more = absurd (omega arith)
begin_whole left begun (b ∷ bytes) half ec z some more =
    let n = 8 * length (b ∷ bytes) - cond half 4 0 in
    let long : 8 ≤ n = elim more [ inl whole ↦ (rw whole (omega arith)) | inr rest ↦ omega (arith, at_most_four half) ] in
    let e : n - 8 ≡ 8 * length bytes - cond half 4 0 = omega arith in
    nothing_begun left begun (take n (bits_of (b ∷ bytes)) ++ bits_of ec) z
    ∙ ap (λ (bits : List Bool). bits ++ bits_of ec) (whole_byte n b bytes long ∙ ap (λ (k : ℕ). number_bits 8 b ++ take k (bits_of bytes)) e)
    ∙ append_assoc (number_bits 8 b) (take (8 * length bytes - cond half 4 0) (bits_of bytes)) (bits_of ec) where
      at_most_four : (t : Bool) → cond t 4 0 ≤ 4
      at_most_four t = grind (arith, nat_tests)

no_data : (bytes : List ℕ) (n : ℕ) → length bytes ≡ 0 → take n (bits_of bytes) ≡ []
no_data [] zero e = refl
no_data [] (suc n) e = refl
no_data (b ∷ bytes) n e = absurd (omega arith)

pub begin_ec : (left begun : ℕ) (bytes : List ℕ) (half : Bool) (ec : List ℕ) → left ≡ 0 → length bytes ≡ 0 → 0 < length ec
    → bits_left left begun bytes half ec ≡ bits_left 8 (get_or ec 0 0) bytes half (drop 1 ec)
unfolding number_bits
begin_ec left begun bytes half [] z none some = absurd (omega arith)
begin_ec left begun bytes half (b ∷ ec) z none some = rw (z, no_data bytes (8 * length bytes - cond half 4 0) none) refl

pub next_none : (left begun : ℕ) (bytes : List ℕ) (half : Bool) (ec : List ℕ) → left ≡ 0 → length bytes ≡ 0 → length ec ≡ 0 → bits_left left begun bytes half ec ≡ []
unfolding number_bits
next_none left begun bytes half [] z none end = rw (z, no_data bytes (8 * length bytes - cond half 4 0) none) refl
next_none left begun bytes half (b ∷ ec) z none end = absurd (omega arith)

pub taken_rest : (bytes : List ℕ) → take (length bytes - 1) (drop 1 bytes) ≡ drop 1 bytes
taken_rest [] = refl
taken_rest (b ∷ bytes) = let e : length (b ∷ bytes) - 1 ≡ length bytes = omega arith in rw e (take_all bytes) where
  take_all : (bytes : List ℕ) → take (length bytes) bytes ≡ bytes
  take_all [] = refl
  take_all (x ∷ xs) = ap (λ (l : List ℕ). x ∷ l) (take_all xs)
