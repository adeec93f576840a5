-- The length of a part's header.
use Rattle.std.proofs.Common.{◌≡◌, ℕ, ◌==◌, ◌++◌, true, false, [], length, refl, arith, length-append, if◌then◌else◌}
use Rattle.qrcode_types.specs.Bits.{number_bits}
use Rattle.qrcode_bits.specs.StructuredAppend.{append_header, append_front}
use Rattle.qrcode_bits.proofs.Numbers.{length-number_bits}
use Rattle.qrcode_append.specs.Symbols.{front_length}

pub length-header : (place last parity : ℕ) → length (append_header place last parity) ≡ 20
unfolding append_header
length-header place last parity =
    let a = number_bits 4 3 in
    let b = number_bits 4 place in
    let c = number_bits 4 last in
    let d = number_bits 8 parity in
    omega (arith, length-append a (b ++ (c ++ d)), length-append b (c ++ d), length-append c d, length-number_bits 4 3, length-number_bits 4 place, length-number_bits 4 last, length-number_bits 8 parity)

-- the header has as many bits as `front_length` counts
pub length-front : (place last parity : ℕ) → length (append_front place last parity) ≡ front_length last
length-front place last parity =
    elim (last == 0) as (λ t. length (if t then [] else append_header place last parity) ≡ (if t then 0 else 20)) [
      | true ↦ refl
      | false ↦ length-header place last parity
    ]
