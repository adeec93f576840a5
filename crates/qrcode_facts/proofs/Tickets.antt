-- Each number fits a ticket.
use Rattle.std.proofs.Common.{◌≡◌, ℕ, ◌%◌, ◌^◌, ◌+◌, ◌<◌, nat_le, pos, true, [], ◌∷◌, length, IsTrue, refl, ◌∙◌, arith}
use Rattle.std.specs.Fmt.{decimal}
use Rattle.std.specs.List.{list_all}
use Rattle.std.proofs.lemmas.Bool.{and_from, le-leb}
use Rattle.std.proofs.lemmas.Fmt.{decimal_by_steps, length-decimal-le, decimal_nonempty}
use Rattle.std.proofs.lemmas.List.Folds.{list_all-append}
use Rattle.qrcode_types.specs.Tables.{block_table}
use Rattle.qrcode_types.specs.Characters.{is_digit, can_write}
use Rattle.qrcode_types.specs.Versions.{has_level, capacity, data_length, block_lengths, blocks_entry}
use Rattle.qrcode_types.specs.declared.types.EcLevel.TheVariants.{L}
use Rattle.qrcode_types.specs.declared.types.Mode.TheVariants.{Numeric}
use Rattle.qrcode_types.specs.declared.types.Version.TheVariants.{Micro}
use Rattle.qrcode_bits.specs.Manners.{modes_of}
use Rattle.qrcode_bits.specs.declared.bits.manner.Manner.TheVariants.{Bytes}
use Rattle.qrcode_bits.specs.Choice.{Holds}
use Rattle.qrcode_bits.proofs.DigitCuts.{digits_least, digits_segment}

digit : (d : ℕ) → d < 10 → IsTrue (is_digit (48 + d))
digit d h = and_from (nat_le 48 (48 + d)) (nat_le (48 + d) 57) (le-leb 48 (48 + d) (omega arith)) (le-leb (48 + d) 57 (omega arith))

digits : (n : ℕ) → n < 2 ^ 64 → IsTrue (can_write Numeric (decimal n))
digits n h =
    decimal_by_steps (λ _ ds. IsTrue (list_all is_digit ds)) (λ d small. and_from (is_digit (48 + d)) true (digit d small) refl)
    (λ m ds large all. list_all-append is_digit ds ((48 + m % 10) ∷ []) ∙ and_from (list_all is_digit ds) (list_all is_digit ((48 + m % 10) ∷ [])) all (and_from (is_digit (48 + m % 10)) true (digit (m % 10) (omega arith)) refl))
    n h

room : IsTrue (has_level (Micro (pos 2)) L) × (capacity (Micro (pos 2)) L ≡ 40)
unfolding capacity data_length block_lengths blocks_entry block_table
room = (refl, refl)

pub number_accepted : (n : ℕ) → n < 2 ^ 32 → Holds (Micro (pos 2)) L (decimal n)
number_accepted n h =
    let least = digits_least (modes_of Bytes) (Micro (pos 2)) (decimal n) refl refl (decimal_nonempty n (omega arith)) (digits n (omega arith)) in
    let small = length-decimal-le 10 n (omega arith) (omega arith) (omega arith) in
    record { exists = room.0; room = (digits_segment (length (decimal n)) ∷ [], (least.reached.cut, omega (arith, small, room.1))) }
