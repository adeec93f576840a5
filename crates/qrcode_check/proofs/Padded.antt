-- In how many bits a list differs from the padding, byte by byte.
use Rattle.std.proofs.Common.{◌≡◌, ℕ, ◌+◌, ◌*◌, ◌/◌, ◌%◌, ◌≤◌, ◌++◌, Bool, List, length, take, drop, false, replicate, sym, ap, ap₂, ◌∙◌, arith, length-drop}
use Rattle.std.proofs.Math.Seq.{take-add}
use Rattle.std.proofs.lemmas.List.{take-append-drop, length-take-le}
use Rattle.qrcode_types.specs.Bits.{number_bits, bit_distance}
use Rattle.qrcode_types.specs.Versions.{padding_byte}
use Rattle.qrcode_bits.specs.Written.{padding}
use Rattle.qrcode_bits.proofs.Packing.{number_bits-zero}
use Rattle.qrcode_bits.proofs.Paddings.{padding_bytes, padding_bytes-more}
use Rattle.qrcode_check.proofs.Distances.{distance_append}

-- one byte more
pub byte_more : (bits : List Bool) (i count d : ℕ) → 8 * i + 8 ≤ length bits → length (padding_bytes i) ≡ 8 * i → count ≡ bit_distance (take (8 * i) bits) (padding_bytes i)
    → d ≡ bit_distance (take 8 (drop (8 * i) bits)) (number_bits 8 (padding_byte i)) → count + d ≡ bit_distance (take (8 * (i + 1)) bits) (padding_bytes (i + 1))
byte_more bits i count d inside long c e =
    let byte = number_bits 8 (padding_byte i) in
    let next : 8 * (i + 1) ≡ 8 * i + 8 = omega arith in
    ap₂ (λ (x y : ℕ). x + y) c e
    ∙ sym (distance_append (take (8 * i) bits) (padding_bytes i) (take 8 (drop (8 * i) bits)) byte (length-take-le (8 * i) bits (omega arith) ∙ sym long))
    ∙ sym (ap₂ bit_distance (ap (λ (n : ℕ). take n bits) next ∙ take-add (8 * i) 8 bits) (padding_bytes-more i))

-- and the bits after the last whole byte
pub all_bytes : (bits : List Bool) (i count d : ℕ) → i ≡ length bits / 8 → length (padding_bytes i) ≡ 8 * i → count ≡ bit_distance (take (8 * i) bits) (padding_bytes i)
    → d ≡ bit_distance (drop (8 * i) bits) (number_bits (length (drop (8 * i) bits)) 0) → count + d ≡ bit_distance bits (padding (length bits))
unfolding padding
all_bytes bits i count d last long c e =
    let n = length bits in
    let left : length (drop (8 * i) bits) ≡ n % 8 = length-drop (8 * i) bits ∙ omega (arith, last) in
    let zeros : number_bits (length (drop (8 * i) bits)) 0 ≡ replicate (n % 8) false = number_bits-zero (length (drop (8 * i) bits)) ∙ ap (λ (k : ℕ). replicate k false) left in
    ap₂ (λ (x y : ℕ). x + y) c (e ∙ ap (bit_distance (drop (8 * i) bits)) zeros)
    ∙ sym (distance_append (take (8 * i) bits) (padding_bytes i) (drop (8 * i) bits) (replicate (n % 8) false) (length-take-le (8 * i) bits (omega (arith, last)) ∙ sym long))
    ∙ ap₂ bit_distance (take-append-drop (8 * i) bits) (ap (λ (k : ℕ). padding_bytes k ++ replicate (n % 8) false) last)
