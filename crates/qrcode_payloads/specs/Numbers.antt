-- Numbers as people write them: digits, and perhaps a point and more digits.
use Rattle.std.specs.Prelude.{◌≡◌, ℕ, ◌-◌, ◌^◌, ◌==◌, nat_le, ◌&&◌, min, Bool, List, ◌++◌, ℤ, pos, negsuc, length, replicate, drop, slice_index_or, Option, Some, None, if◌then◌else◌, refl, codes}
use Rattle.std.specs.List.{after_first, before_first, list_all}
use Rattle.std.specs.Option.{option_map}
use Rattle.std.specs.Str.Parse.{digits_value}
use Rattle.qrcode_types.specs.Characters.{is_digit}
use Rattle.qrcode_contents.specs.Geo.{negative}
use Rattle.qrcode_contents.specs.fields.Entries.{is_filled}
use Rattle.qrcode_payloads.specs.Plain.{is_byte}

abbrev pub at_most_u64 : ℕ → ℕ  -- a number, or the largest of 64 bits if it is larger
at_most_u64 n = min n (2 ^ 64 - 1)

-- the digits before the point, and those after it, with zeros up to this many places
abbrev pub placed_digits : ℕ → List ℕ → List ℕ → List ℕ
placed_digits places whole part = whole ++ (part ++ replicate (places - length part) 48)

abbrev pub is_number : ℕ → List ℕ → List ℕ → Bool  -- only digits, at least one before the point, and at most this many after it
is_number places whole part =
    (is_filled whole && nat_le (length part) places && list_all is_digit whole) && list_all is_digit part

abbrev pub placed_value : ℕ → List ℕ → List ℕ → Option ℕ  -- the value of such digits in units of the last place; None for any others
placed_value places whole part =
    if is_number places whole part then Some (at_most_u64 (digits_value 10 (placed_digits places whole part))) else None

-- the number that a text is, split at its first point, in units of the last place; None for any other text
abbrev pub scaled_value : ℕ → List ℕ → Option ℕ
scaled_value places text = placed_value places (before_first (is_byte 46) text) (after_first (is_byte 46) text)

amount_row : scaled_value 2 (codes "12.5") ≡ Some 1250
amount_row = refl

long_row : scaled_value 2 (codes "12.345") ≡ None
long_row = refl

bare_row : scaled_value 2 (codes ".34") ≡ None
bare_row = refl

abbrev pub has_minus : List ℕ → Bool  -- the text starts with a minus sign
has_minus text = slice_index_or text 0 0 == 45

abbrev pub unsigned : List ℕ → List ℕ  -- the text without its minus sign, if it has one
unsigned text = if has_minus text then drop 1 text else text

abbrev pub signed : Bool → ℕ → ℤ  -- millionths of a degree with their sign; more than 2,000 degrees become 2,000
signed minus millionths = if minus then negative (min millionths 2000000000) else pos (min millionths 2000000000)

-- degrees in millionths, perhaps with a minus sign; None for any other text
abbrev pub degrees_of : List ℕ → Option ℤ
degrees_of text = option_map (signed (has_minus text)) (scaled_value 6 (unsigned text))

degrees_row : degrees_of (codes "-33.8568") ≡ Some (negsuc 33856799)
degrees_row = refl
