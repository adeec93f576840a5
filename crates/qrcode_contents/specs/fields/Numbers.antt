-- Check digits of account numbers and references.
use Rattle.std.specs.Prelude.{ℕ, nat_lt, ◌+◌, ◌-◌, ◌*◌, ◌%◌, List, [], ◌∷◌, ◌++◌, take, drop, fold, slice_index_or, if◌then◌else◌, codes, refl, ◌≡◌}

-- the number with one more character appended: a digit as it is, a letter as two digits, A = 10 to Z = 35
abbrev pub with_character : ℕ → ℕ → ℕ
with_character n c = if nat_lt c 58 then n * 10 + (c - 48) else n * 100 + (c - 55)

-- the number of the characters, with the first four moved to the end (ISO 7064, MOD 97-10)
abbrev pub checked_number : List ℕ → ℕ
checked_number text = fold with_character 0 (drop 4 text ++ take 4 text)

-- printed examples of IBANs and of an ISO 11649 reference, and an IBAN with a wrong digit
checked_rows : checked_number (codes "GB82WEST12345698765432") % 97 ≡ 1
checked_rows = refl

german_row : checked_number (codes "DE89370400440532013000") % 97 ≡ 1
german_row = refl

reference_row : checked_number (codes "RF18539007547034") % 97 ≡ 1
reference_row = refl

wrong_row : checked_number (codes "DE88370400440532013000") % 97 ≡ 0
wrong_row = refl

abbrev pub carry_table : List ℕ  -- the next carry, by the last digit of the sum of carry and digit (method "modulo 10, recursive")
carry_table = 0 ∷ 9 ∷ 4 ∷ 6 ∷ 8 ∷ 2 ∷ 7 ∷ 1 ∷ 3 ∷ 5 ∷ []

abbrev pub next_carry : ℕ → ℕ → ℕ
next_carry carry digit = slice_index_or carry_table ((carry + (digit - 48)) % 10) 0

abbrev pub carry_of : List ℕ → ℕ  -- the carry after all digits: zero if the last is the right check digit
carry_of digits = fold next_carry 0 digits

-- the printed reference of the Swiss QR-bill guidelines, and one with another last digit
carry_row : carry_of (codes "210000000003139471430009017") ≡ 0
carry_row = refl

wrong_carry_row : carry_of (codes "210000000003139471430009018") ≡ 9
wrong_carry_row = refl
