-- The bits of numbers that are joined, split and packed into bytes.
use Rattle.std.proofs.Common.{◌≡◌, ℕ, zero, suc, ◌+◌, ◌-◌, ◌*◌, ◌/◌, ◌%◌, ◌^◌, ◌<◌, Bool, false, ◌==◌, List, [], ◌∷◌, ◌++◌, length, replicate, bit_and, refl, ap, ap₂, sym, ◌∙◌, arith, append_assoc, append-nil, length-append, add-zero}
use Rattle.std.specs.Int.{bit_at}
use Rattle.std.proofs.lemmas.Nat.Bits.{bit_at_cat_low, bit_at_cat_high, bit_at-zero}
use Rattle.std.proofs.lemmas.Nat.{shr_split, mod_below, pow_pos, mul-add-lt, pow-add, one_shl, and_mask}
use Rattle.qrcode_types.specs.Bits.{number_bits, bits_of}
use Rattle.qrcode_bits.proofs.Numbers.{length-number_bits}

-- two numbers with the same low bits
same_bits : (count a b : ℕ) → ((i : ℕ) → i < count → bit_at a i ≡ bit_at b i) → number_bits count a ≡ number_bits count b
unfolding number_bits
same_bits zero a b h = refl
same_bits (suc count) a b h =
    ap₂ (λ (x : ℕ) (bits : List Bool). (x == 1) ∷ bits) (h count (omega arith)) (same_bits count a b (λ i l. h i (omega arith)))

-- the bits of one number, and then those of another
pub number_bits-cat : (m n a b : ℕ) → b < 2 ^ n → number_bits (m + n) (a * 2 ^ n + b) ≡ number_bits m a ++ number_bits n b
unfolding number_bits
number_bits-cat zero n a b h = let e : zero + n ≡ n = omega arith in rw e (same_bits n (a * 2 ^ n + b) b (λ i l. bit_at_cat_low a n b i l))
number_bits-cat (suc m) n a b h =
    let e : suc m + n ≡ suc (m + n) = omega arith in
    let d : (m + n) - n ≡ m = omega arith in
    let top : bit_at (a * 2 ^ n + b) (m + n) ≡ bit_at a m = bit_at_cat_high a n b (m + n) h (omega arith) ∙ ap (λ i. bit_at a i) d in
    rw e (ap₂ (λ (x : ℕ) (bits : List Bool). (x == 1) ∷ bits) top (number_bits-cat m n a b h))

-- a number split in two
number_bits-cut : (m n number : ℕ) → number_bits (m + n) number ≡ number_bits m (number / 2 ^ n) ++ number_bits n (number % 2 ^ n)
number_bits-cut m n number =
    ap (λ x. number_bits (m + n) x) (sym (shr_split number n)) ∙ number_bits-cat m n (number / 2 ^ n) (number % 2 ^ n) (mod_below number (2 ^ n) (pow_pos n))

pub number_bits-mod : (n number : ℕ) → number_bits n (number % 2 ^ n) ≡ number_bits n number
number_bits-mod n number =
    same_bits n (number % 2 ^ n) number
    (λ i l. sym (bit_at_cat_low (number / 2 ^ n) n (number % 2 ^ n) i l) ∙ ap (λ x. bit_at x i) (shr_split number n))

pub no_bits : (n : ℕ) → number_bits 0 n ≡ []
unfolding number_bits
no_bits n = refl

pub number_bits-zero : (n : ℕ) → number_bits n 0 ≡ replicate n false
unfolding number_bits
number_bits-zero zero = refl
number_bits-zero (suc n) = ap₂ (λ (x : ℕ) (bits : List Bool). (x == 1) ∷ bits) (bit_at-zero n) (number_bits-zero n)

bits_of-append : (a b : List ℕ) → bits_of (a ++ b) ≡ bits_of a ++ bits_of b
bits_of-append [] b = refl
bits_of-append (x ∷ a) b = ap (λ r. number_bits 8 x ++ r) (bits_of-append a b) ∙ sym (append_assoc (number_bits 8 x) (bits_of a) (bits_of b))

pub bits_of-push : (a : List ℕ) (x : ℕ) → bits_of (a ++ x ∷ []) ≡ bits_of a ++ number_bits 8 x
bits_of-push a x = bits_of-append a (x ∷ []) ∙ ap (λ r. bits_of a ++ r) (append-nil (number_bits 8 x))

-- appending one whole byte of a number, and the rest of it
pub bits_of-whole : (bytes : List ℕ) (n number : ℕ) → bits_of (bytes ++ (number / 2 ^ n % 2 ^ 8) ∷ []) ++ number_bits n number ≡ bits_of bytes ++ number_bits (8 + n) number
bits_of-whole bytes n number =
    rw (bits_of-push bytes (number / 2 ^ n % 2 ^ 8), append_assoc, number_bits-mod 8 (number / 2 ^ n), ← number_bits-mod n number, ← number_bits-cut 8 n number)

length-bits_of : (bytes : List ℕ) → length (bits_of bytes) ≡ 8 * length bytes
length-bits_of [] = refl
length-bits_of (x ∷ bytes) = length-append (number_bits 8 x) (bits_of bytes) ∙ omega (arith, length-number_bits 8 x, length-bits_of bytes)

pub length-packed : (bytes : List ℕ) (count rest : ℕ) → length (bits_of bytes ++ number_bits count rest) ≡ 8 * length bytes + count
length-packed bytes count rest =
    length-append (bits_of bytes) (number_bits count rest) ∙ omega (arith, length-bits_of bytes, length-number_bits count rest)

-- a number of m bits before one of k bits has m + k bits
pub joined-lt : (r m v k : ℕ) → r < 2 ^ m → v < 2 ^ k → r * 2 ^ k + v < 2 ^ (m + k)
joined-lt r m v k p q = omega (arith, mul-add-lt r (2 ^ k) v (2 ^ m) p q, pow-add 2 m k)

-- the low bits of a number, by a mask
pub low_bits : (n k : ℕ) → k < 64 → bit_and n (1 * 2 ^ k % 2 ^ 64 - 1) ≡ n % 2 ^ k
low_bits n k h = rw (one_shl k 64 h) (and_mask n k)

-- zeros after a number
pub number_bits-filled : (rest count zeros : ℕ) → number_bits (count + zeros) (rest * 2 ^ zeros) ≡ number_bits count rest ++ replicate zeros false
number_bits-filled rest count zeros =
    ap (λ n. number_bits (count + zeros) n) (sym (add-zero (rest * 2 ^ zeros)))
    ∙ number_bits-cat count zeros rest 0 (pow_pos zeros)
    ∙ ap (λ r. number_bits count rest ++ r) (number_bits-zero zeros)
