-- Tests of the characters in a field.
use Rattle.std.specs.Prelude.{ℕ, nat_lt, ◌==◌, count_by, ◌&&◌, ◌||◌, not, Bool, true, false, List, [], ◌∷◌, map, Option, if◌then◌else◌}
use Rattle.std.specs.List.{list_all, list_any, slice_split}
use Rattle.qrcode_types.specs.Characters.{is_digit}
use Rattle.qrcode_contents.specs.declared.fields.errors.ContentError.{ContentError}
use Rattle.qrcode_contents.specs.declared.fields.errors.Field.{Field}
use Rattle.qrcode_contents.specs.declared.fields.errors.Cause.TheVariants.{ControlCharacter}
use Rattle.qrcode_contents.specs.fields.Refusals.{refused_if, first_refusal}

abbrev pub is_capital : ℕ → Bool  -- a letter A to Z
is_capital b = nat_lt 64 b && nat_lt b 91

abbrev pub is_capital_or_digit : ℕ → Bool  -- a digit, or a letter A to Z
is_capital_or_digit b = is_digit b || is_capital b

abbrev pub is_dialled : ℕ → Bool  -- a byte that a telephone number may have: a digit, a plus sign, or one of -.()
is_dialled b = is_digit b || b == 43 || b == 45 || b == 46 || b == 40 || b == 41

abbrev pub is_base32 : ℕ → Bool  -- a character of base 32 (RFC 4648, section 6)
is_base32 b = is_capital b || (nat_lt 49 b && nat_lt b 56)

abbrev pub is_control : ℕ → Bool  -- an ASCII control character
is_control b = nat_lt b 32 || b == 127

abbrev pub is_other_control : ℕ → Bool  -- an ASCII control character other than tab and line feed
is_other_control b = is_control b && not (b == 9) && not (b == 10)

abbrev pub is_unicode_break : ℕ → Bool  -- a line break outside ASCII: NEL, LS or PS
is_unicode_break c = c == 133 || c == 8232 || c == 8233

abbrev pub has_one_at : List ℕ → Bool  -- exactly one @
has_one_at bytes = count_by (λ b. b == 64) bytes == 1

abbrev pub is_beside_address : ℕ → Bool  -- a space or an angle bracket, which stand between a name and an address
is_beside_address b = b == 32 || b == 60 || b == 62

abbrev pub is_address : List ℕ → Bool  -- exactly one @, and none of these
is_address bytes = has_one_at bytes && not (list_any is_beside_address bytes)

abbrev pub are_addresses : List ℕ → Bool  -- addresses that commas separate
are_addresses text = list_all is_address (slice_split (λ b. b == 44) text)

abbrev pub before : ℕ → List ℕ → List ℕ  -- the bytes before the first byte c; all if there is none
before c [] = []
before c (b ∷ rest) = if b == c then [] else b ∷ before c rest

abbrev pub after : ℕ → List ℕ → List ℕ  -- the bytes after the first byte c; none if there is none
after c [] = []
after c (b ∷ rest) = if b == c then rest else after c rest

-- a byte that matches one of a form: a digit matches d, a hexadecimal digit in lower case h, a plus or minus sign s, any other only itself
abbrev pub is_placed : ℕ → ℕ → Bool
is_placed place b =
    if place == 100 then is_digit b else (if place == 104 then is_digit b || (nat_lt 96 b && nat_lt b 103)
    else (if place == 115 then b == 43 || b == 45 else b == place))

abbrev pub matches_form : List ℕ → List ℕ → Bool  -- the bytes match the form, e.g. dd:dd for a time of day
matches_form [] [] = true
matches_form [] (b ∷ bytes) = false
matches_form (place ∷ form) [] = false
matches_form (place ∷ form) (b ∷ bytes) = is_placed place b && matches_form form bytes

abbrev pub control_refusal : List (Field × List ℕ) → Option ContentError  -- the error of the first field with a control character
control_refusal fields =
    first_refusal (map (λ field. refused_if (list_any is_control field.1) field.0 ControlCharacter) fields)

abbrev pub other_control_checks : List (Field × List ℕ) → List (Option ContentError)  -- for each field, the check for control characters other than tab and line feed
other_control_checks fields = map (λ field. refused_if (list_any is_other_control field.1) field.0 ControlCharacter) fields
