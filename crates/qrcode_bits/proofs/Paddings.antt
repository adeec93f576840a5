-- The bytes of the padding, one after the other.
use Rattle.std.proofs.Common.{◌≡◌, ℕ, zero, suc, ◌+◌, ◌*◌, ◌/◌, ◌%◌, ◌++◌, Bool, false, List, [], ◌∷◌, length, replicate, refl, ap, ◌∙◌, arith, append-nil, length-append}
use Rattle.std.specs.Prelude.{flat_map}
use Rattle.std.specs.List.{range_with_len}
use Rattle.std.proofs.lemmas.Grind.{flat_map-append}
use Rattle.std.proofs.lemmas.List.{length-replicate}
use Rattle.qrcode_bits.proofs.Numbers.{length-number_bits}
use Rattle.qrcode_types.specs.Bits.{number_bits}
use Rattle.qrcode_types.specs.Versions.{padding_byte}
use Rattle.qrcode_bits.specs.Written.{padding}

abbrev byte_bits : ℕ → List Bool
byte_bits i = number_bits 8 (padding_byte i)

abbrev pub padding_bytes : ℕ → List Bool
padding_bytes n = flat_map byte_bits (range_with_len 0 n)

range_more : (a n : ℕ) → range_with_len a (suc n) ≡ range_with_len a n ++ (a + n) ∷ []
range_more a zero = ap (λ i. i ∷ []) (let e : a ≡ a + 0 = omega arith in e)
range_more a (suc n) = ap (λ is. a ∷ is) (range_more (a + 1) n ∙ ap (λ i. range_with_len (a + 1) n ++ i ∷ []) (let e : a + 1 + n ≡ a + suc n = omega arith in e))

-- appending one byte
pub padding_bytes-more : (n : ℕ) → padding_bytes (n + 1) ≡ padding_bytes n ++ number_bits 8 (padding_byte n)
padding_bytes-more n =
    ap padding_bytes (let e : n + 1 ≡ suc n = omega arith in e)
    ∙ ap (flat_map byte_bits) (range_more 0 n ∙ ap (λ i. range_with_len 0 n ++ i ∷ []) (let e : 0 + n ≡ n = omega arith in e))
    ∙ flat_map-append byte_bits (range_with_len 0 n) (n ∷ [])
    ∙ ap (λ r. padding_bytes n ++ r) (append-nil (byte_bits n))

length-padding_bytes : (a n : ℕ) → length (flat_map byte_bits (range_with_len a n)) ≡ 8 * n
length-padding_bytes a zero = refl
length-padding_bytes a (suc n) =
    omega (arith, length-append (byte_bits a) (flat_map byte_bits (range_with_len (a + 1) n)), length-number_bits 8 (padding_byte a), length-padding_bytes (a + 1) n)

pub length-padding : (n : ℕ) → length (padding n) ≡ n
unfolding padding
length-padding n = omega (arith, length-append (padding_bytes (n / 8)) (replicate (n % 8) false), length-padding_bytes 0 (n / 8), length-replicate (n % 8) false)

pub padding-nil : padding 0 ≡ []
unfolding padding
padding-nil = refl
