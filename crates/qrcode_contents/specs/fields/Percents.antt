-- Percent-encoding (RFC 3986, section 2).
use Rattle.std.specs.Prelude.{◌≡◌, ℕ, nat_lt, ◌+◌, ◌-◌, ◌*◌, ◌/◌, ◌%◌, ◌==◌, ◌&&◌, ◌||◌, Bool, List, [], ◌∷◌, flat_map, codes, if◌then◌else◌, refl}
use Rattle.qrcode_types.specs.Characters.{is_digit}

abbrev pub is_unreserved : ℕ → Bool  -- a byte that is not encoded: a letter, a digit, or one of -._~
is_unreserved b =
    is_digit b || (nat_lt 64 b && nat_lt b 91) || (nat_lt 96 b && nat_lt b 123) || b == 45 || b == 46 || b == 95 || b == 126

abbrev pub hex_digit : ℕ → ℕ  -- the hexadecimal digit of a number below 16, with capitals; any other number has a character above them
hex_digit n = if nat_lt n 10 then 48 + n else (if nat_lt n 16 then 55 + n else 87 + n)

abbrev pub hex_value : ℕ → ℕ  -- the number of a hexadecimal digit, in upper or lower case
hex_value c = if nat_lt c 58 then c - 48 else (if nat_lt c 71 then c - 55 else c - 87)

abbrev pub encoded_byte : ℕ → List ℕ  -- a byte as it is, or as a percent sign and two hexadecimal digits
encoded_byte b = if is_unreserved b then b ∷ [] else 37 ∷ hex_digit (b / 16) ∷ hex_digit (b % 16) ∷ []

unfoldable pub encoded : List ℕ → List ℕ  -- the bytes, percent-encoded
encoded bytes = flat_map encoded_byte bytes

unfoldable pub decoded : List ℕ → List ℕ  -- percent-encoded bytes, decoded
decoded [] = []
decoded (a ∷ []) = a ∷ []
decoded (a ∷ b ∷ []) = a ∷ b ∷ []
decoded (a ∷ b ∷ c ∷ rest) =
    if a == 37 then (16 * hex_value b + hex_value c) ∷ decoded rest else a ∷ decoded (b ∷ c ∷ rest)

-- the printed example of section 2.1, a space
printed_row : decoded (codes "a%20b") ≡ codes "a b"
unfolding decoded
printed_row = refl

-- the printed example of section 6.2.2.1: both cases are equivalent
case_row : decoded (codes "%3a%3A") ≡ codes "::"
unfolding decoded
case_row = refl
