-- Keys of Pix (the central bank's manual of the directory of transactional accounts, DICT): CPF and CNPJ numbers, telephone numbers, e-mail
-- addresses and random keys.
use Rattle.std.specs.Prelude.{◌≡◌, ℕ, nat_lt, nat_le, ◌+◌, ◌-◌, ◌*◌, ◌%◌, ◌==◌, ◌&&◌, ◌||◌, not, Bool, true, false, List, [], ◌∷◌, length, drop, slice_index_or, codes, if◌then◌else◌, refl}
use Rattle.std.specs.List.{list_all, starts_with}
use Rattle.qrcode_types.specs.Characters.{is_digit}
use Rattle.qrcode_contents.specs.fields.Characters.{is_capital_or_digit, matches_form}
use Rattle.qrcode_contents.specs.Upi.{is_address}

-- the values of characters, each by its weight, added up; the value of a character is its code less that of 0, so that digits are their own
abbrev pub weighted_sum : List ℕ → List ℕ → ℕ
weighted_sum [] text = 0
weighted_sum (weight ∷ weights) [] = 0
weighted_sum (weight ∷ weights) (c ∷ text) = weight * (c - 48) + weighted_sum weights text

abbrev pub check_digit : List ℕ → List ℕ → ℕ  -- the character of a check digit: 11 less the remainder of the sum modulo 11, or 0 for a remainder of 0 or 1
check_digit weights text = if nat_lt (weighted_sum weights text % 11) 2 then 48 else 59 - weighted_sum weights text % 11

-- the last two characters are the check digits: the first of all before it, by the weights from the second on, the last of all before it, by all weights
abbrev pub has_tax_digits : List ℕ → List ℕ → Bool
has_tax_digits weights text =
    nat_lt 0 (length weights) && nat_lt (length weights) (length text)
    && slice_index_or text (length weights - 1) 0 == check_digit (drop 1 weights) text
    && slice_index_or text (length weights) 0 == check_digit weights text

abbrev pub person_weights : List ℕ  -- the weights of a CPF
person_weights = 11 ∷ 10 ∷ 9 ∷ 8 ∷ 7 ∷ 6 ∷ 5 ∷ 4 ∷ 3 ∷ 2 ∷ []

abbrev pub business_weights : List ℕ  -- the weights of a CNPJ
business_weights = 6 ∷ 5 ∷ 4 ∷ 3 ∷ 2 ∷ 9 ∷ 8 ∷ 7 ∷ 6 ∷ 5 ∷ 4 ∷ 3 ∷ 2 ∷ []

-- the CPF of most examples, the central bank's own CNPJ, the CNPJ with letters that the tax authority prints, and a CPF with two digits swapped
person_row : has_tax_digits person_weights (codes "12345678909") ≡ true
person_row = refl

business_row : has_tax_digits business_weights (codes "00038166000105") ≡ true
business_row = refl

letters_row : has_tax_digits business_weights (codes "12ABC34501DE35") ≡ true
letters_row = refl

swapped_row : has_tax_digits person_weights (codes "12345687909") ≡ false
swapped_row = refl

abbrev pub is_person : List ℕ → Bool  -- the form of a CPF: eleven digits
is_person text = length text == 11 && list_all is_digit text

abbrev pub is_business : List ℕ → Bool  -- the form of a CNPJ: fourteen digits and capitals
is_business text = length text == 14 && list_all is_capital_or_digit text

abbrev pub has_wrong_digits : List ℕ → Bool  -- the form of a CPF or CNPJ, but other check digits
has_wrong_digits text =
    (is_person text && not (has_tax_digits person_weights text)) || (is_business text && not (has_tax_digits business_weights text))

abbrev pub is_brazilian : List ℕ → Bool  -- the country code of Brazil
is_brazilian text = starts_with (λ a b. a == b) text (codes "+55")

-- a telephone number with its country code: a plus sign and 3 to 15 digits, of which the first is not 0 (ITU-T E.164); in Brazil two digits of the
-- area, of which the first is not 0, and 8 or 9 more
abbrev pub is_telephone : List ℕ → Bool
is_telephone text =
    nat_lt 3 (length text) && slice_index_or text 0 0 == 43 && not (slice_index_or text 1 0 == 48) && list_all is_digit (drop 1 text)
    && (if is_brazilian text then not (slice_index_or text 3 0 == 48) && (length text == 13 || length text == 14) else nat_le (length text) 16)

abbrev pub is_random : List ℕ → Bool  -- a random key (RFC 4122): 32 hexadecimal digits, in groups with hyphens between them
is_random text = matches_form (codes "hhhhhhhh-hhhh-hhhh-hhhh-hhhhhhhhhhhh") text

abbrev pub is_key : List ℕ → Bool  -- the form of a key
is_key text = is_person text || is_business text || is_telephone text || is_address text || is_random text
