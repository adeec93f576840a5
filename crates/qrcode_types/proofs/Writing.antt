-- A greater mode writes all bytes that a lesser one can.
use Rattle.std.proofs.Common.{◌≡◌, ℕ, suc, ◌/◌, ◌<◌, nat_le, true, not, ◌||◌, IsTrue, List, [], ◌∷◌, get_or, refl, inl, inr, arith}
use Rattle.std.specs.List.{list_all}
use Rattle.std.proofs.lemmas.Bool.{agree_below_at, and_parts, and_from, or_cases, both_ways, not-true, leb-true, lt-ltb}
use Rattle.std.proofs.lemmas.Bool.Decides.{nat_tests}
use Rattle.qrcode_types.specs.Bits.{AreBytes}
use Rattle.qrcode_types.specs.Characters.{is_digit, is_alphanumeric, alphabet, can_write, bytes_each, character_count}
use Rattle.qrcode_types.specs.Modes.{is_at_most}
use Rattle.qrcode_types.specs.declared.types.Mode.{Mode}
use Rattle.qrcode_types.specs.declared.types.Mode.TheVariants.{Byte}

digit_is_alphanumeric : (b : ℕ) → is_digit b ≡ true → is_alphanumeric b ≡ true
unfolding is_alphanumeric alphabet
digit_is_alphanumeric b digit =
    let below : b < 58 = omega (arith, leb-true b 57 (and_parts (nat_le 48 b) (nat_le b 57) digit).1) in
    let test = agree_below_at (λ b. not (is_digit b) || is_alphanumeric b) (λ b. true) 58 b refl below in
    elim (or_cases _ _ test) [ inl other ↦ absurd (both_ways _ (not-true _ other) digit) | inr same ↦ same ]

digits_are_alphanumeric : (bytes : List ℕ) → IsTrue (list_all is_digit bytes) → IsTrue (list_all is_alphanumeric bytes)
digits_are_alphanumeric [] e = e
digits_are_alphanumeric (b ∷ bytes) e =
    let parts = and_parts (is_digit b) (list_all is_digit bytes) e in
    and_from _ _ (digit_is_alphanumeric b parts.0) (digits_are_alphanumeric bytes parts.1)

-- if each item is below 256, they are bytes
pub are_bytes : (numbers : List ℕ) → ((i : ℕ) → get_or numbers i 0 < 256) → AreBytes numbers
are_bytes [] each = tt
are_bytes (n ∷ numbers) each = (each 0, are_bytes numbers (λ i. each (suc i)))

pub bytes_are_written : (bytes : List ℕ) → AreBytes bytes → IsTrue (can_write Byte bytes)
bytes_are_written [] e = refl
bytes_are_written (b ∷ bytes) e = and_from _ _ (lt-ltb b 256 e.0) (bytes_are_written bytes e.1)

pub writes : (m n : Mode) → IsTrue (is_at_most m n) → (bytes : List ℕ) → AreBytes bytes → IsTrue (can_write m bytes) → IsTrue (can_write n bytes)
writes m n e bytes are written = grind (arith, nat_tests, digits_are_alphanumeric bytes, bytes_are_written bytes are)

-- the number of characters is the number of bytes divided by the bytes of each
pub counted : (m : Mode) (n : ℕ) → n / bytes_each m ≡ character_count m n
counted m n = grind (arith, nat_tests)
