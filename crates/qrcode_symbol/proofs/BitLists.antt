-- The bits of numbers and of bytes, one by one.
use Rattle.std.proofs.Common.{◌≡◌, ℕ, zero, suc, ◌+◌, ◌-◌, ◌*◌, ◌/◌, ◌%◌, ◌<◌, false, List, [], ◌∷◌, ◌++◌, length, get_or, refl, ap, ◌∙◌, arith, sym, length-append}
use Rattle.std.proofs.lemmas.List.{get_or_append_left, get_or-append-add}
use Rattle.qrcode_types.specs.Bits.{number_bits, bits_of, has_bit}

pub length_number_bits : (count n : ℕ) → length (number_bits count n) ≡ count
unfolding number_bits
length_number_bits zero n = refl
length_number_bits (suc count) n = ap suc (length_number_bits count n)

pub number_bits_at : (count n i : ℕ) → i < count → get_or (number_bits count n) i false ≡ has_bit n (count - 1 - i)
unfolding number_bits
number_bits_at zero n i h = absurd (omega arith)
number_bits_at (suc count) n zero h = let e : suc count - 1 - 0 ≡ count = omega arith in rw e refl
number_bits_at (suc count) n (suc i) h =
    let e : suc count - 1 - suc i ≡ count - 1 - i = omega arith in
    rw e (number_bits_at count n i (omega arith))

pub length_bits_of : (bytes : List ℕ) → length (bits_of bytes) ≡ 8 * length bytes
length_bits_of [] = omega arith
length_bits_of (b ∷ bytes) = omega (arith, length-append (number_bits 8 b) (bits_of bytes), length_number_bits 8 b, length_bits_of bytes)

pub in_byte : (bytes : List ℕ) (i j : ℕ) → i < length bytes → j < 8 → get_or (bits_of bytes) (8 * i + j) false ≡ get_or (number_bits 8 (get_or bytes i 0)) j false
in_byte [] i j h k = absurd (omega arith)
in_byte (b ∷ bytes) zero j h k =
    let z : 8 * 0 + j ≡ j = omega arith in
    rw z (get_or_append_left (number_bits 8 b) (bits_of bytes) false j (omega (arith, length_number_bits 8 b)))
in_byte (b ∷ bytes) (suc i) j h k =
    let n = number_bits 8 b in
    let z : 8 * suc i + j ≡ length n + (8 * i + j) = omega (arith, length_number_bits 8 b) in
    ap (λ p. get_or (n ++ bits_of bytes) p false) z ∙ get_or-append-add n (bits_of bytes) (8 * i + j) false ∙ in_byte bytes i j (omega arith) k

-- bit i of bytes is in byte i / 8
pub bits_of_at : (bytes : List ℕ) (i : ℕ) → i < 8 * length bytes → get_or (bits_of bytes) i false ≡ has_bit (get_or bytes (i / 8) 0) (7 - i % 8)
bits_of_at bytes i h =
    let z : 8 * (i / 8) + i % 8 ≡ i = omega arith in
    let k : i % 8 < 8 = omega arith in
    let e : 8 - 1 - i % 8 ≡ 7 - i % 8 = omega arith in
    ap (λ p. get_or (bits_of bytes) p false) (sym z) ∙ in_byte bytes (i / 8) (i % 8) (omega arith) k ∙ number_bits_at 8 (get_or bytes (i / 8) 0) (i % 8) k ∙ ap (has_bit (get_or bytes (i / 8) 0)) e
