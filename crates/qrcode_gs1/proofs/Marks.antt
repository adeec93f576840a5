-- The mark before the segments.
use Rattle.std.proofs.Common.{◌≡◌, ℕ, ◌+◌, ◌≤◌, ◌++◌, None, false, length, arith, true≢false, length-append}
use Rattle.std.specs.Option.{option_map}
use Rattle.qrcode_types.specs.Bits.{number_bits}
use Rattle.qrcode_types.specs.Versions.{is_micro}
use Rattle.qrcode_types.specs.declared.types.Version.{Version}
use Rattle.qrcode_types.specs.declared.types.Version.TheVariants.{Normal, Micro}
use Rattle.qrcode_bits.specs.Refusals.{append_refusal, indicator_bits, bit_limit}
use Rattle.qrcode_bits.specs.declared.bits.ExtendedMode.TheVariants.{Fnc1First, Fnc1Second}
use Rattle.qrcode_bits.proofs.Changed.{append_fits}
use Rattle.qrcode_bits.proofs.Numbers.{length-number_bits}
use Rattle.qrcode_gs1.specs.symbol.Characters.{mark}
use Rattle.qrcode_gs1.specs.declared.symbol.Fnc1.TheVariants.{First, Second}

pub length-first : length (mark First) ≡ 4
length-first = length-number_bits 4 5

pub length-second : (n : ℕ) → length (mark (Second n)) ≡ 12
length-second n = omega (arith, length-append (number_bits 4 9) (number_bits 8 n), length-number_bits 4 9, length-number_bits 8 n)

-- a mark is accepted if it has room
pub first_taken : (v : Version) (used : ℕ) → is_micro v ≡ false → used + 12 ≤ bit_limit → append_refusal used (indicator_bits v Fnc1First) ≡ None
first_taken (Normal v) used normal room = append_fits used (number_bits 4 5) (omega (arith, room, length-number_bits 4 5))
first_taken (Micro v) used normal room = absurd (true≢false normal)

pub second_taken : (v : Version) (used n : ℕ) → is_micro v ≡ false → used + 12 ≤ bit_limit → append_refusal used (option_map (λ bits. bits ++ number_bits 8 n) (indicator_bits v Fnc1Second)) ≡ None
second_taken (Normal v) used n normal room = append_fits used (number_bits 4 9 ++ number_bits 8 n) (omega (arith, room, length-second n))
second_taken (Micro v) used n normal room = absurd (true≢false normal)
