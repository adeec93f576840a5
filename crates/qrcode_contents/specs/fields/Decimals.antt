-- Numbers in digits, perhaps with a point.
use Rattle.std.specs.Prelude.{◌≡◌, ℕ, zero, suc, nat_le, ◌+◌, ◌-◌, ◌*◌, ◌^◌, ◌&&◌, Bool, List, [], ◌∷◌, length, Option, Some, None, codes, if◌then◌else◌, refl}
use Rattle.std.specs.List.{list_all}
use Rattle.std.specs.Str.Parse.{digits_value}
use Rattle.qrcode_types.specs.Characters.{is_digit}
use Rattle.qrcode_contents.specs.fields.Characters.{before, after}
use Rattle.qrcode_contents.specs.fields.Entries.{is_filled}

-- digits, and perhaps a point and at most this many digits
abbrev pub is_decimal : ℕ → List ℕ → Bool
is_decimal places text =
    is_filled (before 46 text) && list_all is_digit (before 46 text) && list_all is_digit (after 46 text) && nat_le (length (after 46 text)) places

abbrev pub fraction_value : ℕ → List ℕ → ℕ  -- the value of the first digits after a point, this many of them, in units of the last place
fraction_value zero ds = 0
fraction_value (suc k) [] = 0
fraction_value (suc k) (d ∷ ds) = (d - 48) * 10 ^ k + fraction_value k ds

-- the number of a text in units of the last place, e.g. in hundredths with two places; None for any other text
unfoldable pub read_decimal : ℕ → List ℕ → Option ℕ
read_decimal places text =
    if is_decimal places text then Some (digits_value 10 (before 46 text) * 10 ^ places + fraction_value places (after 46 text)) else None

printed_row : read_decimal 2 (codes "1949.75") ≡ Some 194975
unfolding read_decimal
printed_row = refl

-- fewer digits after the point, and no point
tenths_row : read_decimal 2 (codes "10.5") ≡ Some 1050
unfolding read_decimal
tenths_row = refl

whole_row : read_decimal 2 (codes "1") ≡ Some 100
unfolding read_decimal
whole_row = refl

-- too many digits, and a letter
long_row : read_decimal 2 (codes "10.555") ≡ None
unfolding read_decimal
long_row = refl

letter_row : read_decimal 2 (codes "1O.50") ≡ None
unfolding read_decimal
letter_row = refl
