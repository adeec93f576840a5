-- Values without the spaces, hyphens and the like that people write between their characters.
use Rattle.std.specs.Prelude.{◌≡◌, ℕ, ◌==◌, ◌&&◌, ◌||◌, ◌-◌, not, Bool, true, false, List, ◌++◌, Option, Some, None, chars, codes, drop, encode_utf8_all, eqb, length, take, if◌then◌else◌, refl}
use Rattle.std.specs.List.{after_first, before_first, filter_map, list_all, list_any, starts_with}
use Rattle.std.specs.Char.{to_ascii_lowercase, to_ascii_uppercase}
use Rattle.std.specs.Str.{trim}
use Rattle.qrcode_types.specs.Characters.{is_digit}
use Rattle.qrcode_contents.specs.Phone.{is_phone_number}
use Rattle.qrcode_contents.specs.fields.Characters.{is_capital_or_digit, matches_form}
use Rattle.qrcode_contents.specs.fields.Entries.{is_empty}
use Rattle.qrcode_payloads.specs.declared.plain.Cleaning.{Cleaning}
use Rattle.qrcode_payloads.specs.declared.plain.Cleaning.TheVariants.{Spaces, Digits, Amount, Groups, Degrees, Person, Time, Clock, Key, Address}

abbrev pub is_space : ℕ → Bool  -- a space, or a no-break space
is_space c = c == 32 || c == 160 || c == 8239

abbrev pub is_removed : Cleaning → ℕ → Bool  -- a character that is removed
is_removed Spaces c = is_space c
is_removed Digits c = c == 45 || c == 46 || c == 40 || c == 41
is_removed Amount c = false
is_removed Groups c = c == 32 || c == 39
is_removed Degrees c = false
is_removed Person c = is_space c || c == 45
is_removed Time c = false
is_removed Clock c = c == 58
is_removed Key c = c == 45 || c == 46 || c == 40 || c == 41 || c == 47
is_removed Address c = false

abbrev pub as_written : Cleaning → ℕ → ℕ  -- a character as formats write it: a capital; in numbers a point for a comma; in amounts a plain space or apostrophe; in times a T for a space; in addresses a small letter
as_written Spaces c = to_ascii_uppercase c
as_written Digits c = to_ascii_uppercase c
as_written Amount c = if c == 44 then 46 else (if c == 160 || c == 8239 then 32 else (if c == 8217 then 39 else to_ascii_uppercase c))
as_written Groups c = to_ascii_uppercase c
as_written Degrees c = if c == 44 then 46 else to_ascii_uppercase c
as_written Time c = if c == 32 then 84 else to_ascii_uppercase c
as_written Person c = to_ascii_uppercase c
as_written Clock c = to_ascii_uppercase c
as_written Key c = to_ascii_uppercase c
as_written Address c = to_ascii_lowercase c

-- a character as formats write it; None if it is removed
abbrev pub kept : Cleaning → ℕ → Option ℕ
kept cleaning c = if is_removed cleaning c then None else Some (as_written cleaning c)

unfoldable pub plain : Cleaning → List ℕ → List ℕ  -- a value without these characters, the others as formats write them
plain cleaning text = encode_utf8_all (filter_map (kept cleaning) (chars text))

abbrev pub is_byte : ℕ → ℕ → Bool  -- this byte
is_byte c b = b == c

-- a country code: one to three digits after + or 00
unfoldable pub is_code : List ℕ → Bool
is_code text =
    matches_form (codes "+d") text || matches_form (codes "+dd") text || matches_form (codes "+ddd") text || matches_form (codes "00d") text || matches_form (codes "00dd") text || matches_form (codes "00ddd") text

-- such a code, perhaps with a hyphen after it
unfoldable pub is_country : List ℕ → Bool
is_country text = is_code (before_first (is_byte 45) text) && is_empty (after_first (is_byte 45) text)

-- the country codes of Italy, San Marino and the Vatican, where a 0 at the start of a number is dialled from abroad too (ITU-T E.164, national numbering plans)
unfoldable pub dials_zero : List ℕ → Bool
dials_zero code =
    matches_form (codes "+39") code || matches_form (codes "+378") code || matches_form (codes "+379") code || matches_form (codes "0039") code || matches_form (codes "00378") code || matches_form (codes "00379") code

-- a country code, and the 0 of a (0) after it where that is dialled
unfoldable pub with_zero : List ℕ → List ℕ
with_zero country = if dials_zero (before_first (is_byte 45) country) then country ++ codes "0" else country

-- a number in which a (0) right after its country code is the 0 that is dialled, if any
unfoldable pub without_zero : List ℕ → List ℕ
without_zero number =
    if is_country (before_first (is_byte 40) number) && starts_with eqb (after_first (is_byte 40) number) (codes "0)")
    then with_zero (before_first (is_byte 40) number) ++ after_first (is_byte 41) (after_first (is_byte 40) number)
    else number

abbrev pub phone_number : List ℕ → List ℕ  -- a telephone number without spaces, and with what is dialled of such a (0)
phone_number text = without_zero (plain Spaces text)

abbrev pub bare_digits : List ℕ → List ℕ  -- a telephone number without the characters between its digits; any other text unchanged, so that it is rejected
bare_digits text = if is_phone_number text then plain Digits text else text

abbrev pub phone_digits : List ℕ → List ℕ  -- a telephone number as MECARD writes it: digits, perhaps after a plus sign
phone_digits text = bare_digits (phone_number text)

-- a CPF, a CNPJ, or a telephone number with its country code, by its characters
abbrev pub is_key_number : List ℕ → Bool
is_key_number text =
    if starts_with eqb text (codes "+") then list_all is_digit (drop 1 text) else (length text == 11 || length text == 14) && list_all is_capital_or_digit text

abbrev pub key_number : List ℕ → List ℕ  -- a text without spaces and the characters between digits
key_number text = plain Key (phone_number text)

-- a telephone number without its country code: with a bracket, or a hyphen before its last three characters; a CPF may have the same digits
abbrev pub is_local : List ℕ → Bool
is_local text =
    not (starts_with eqb text (codes "+")) && (list_any (is_byte 40) text || list_any (is_byte 45) (take (length text - 3) text))

abbrev pub pix_key : List ℕ → List ℕ  -- a Pix key: a number without these, any other key in small letters, without white space around it
pix_key text = if is_key_number (key_number text) && not (is_local (trim text)) then key_number text else plain Address (trim text)

-- telephone numbers without and with their country code, a CPF and a CNPJ
local_row : is_local (codes "(11) 90000-0750") ≡ true
local_row = refl

plus_row : is_local (codes "+55 (11) 90000-0750") ≡ false
plus_row = refl

person_row : is_local (codes "123.456.789-09") ≡ false
person_row = refl

company_row : is_local (codes "00.038.166/0001-05") ≡ false
company_row = refl

abroad_row : without_zero (codes "+41(0)791234567") ≡ codes "+41791234567"
unfolding without_zero with_zero is_country is_code dials_zero
abroad_row = refl

hyphen_row : without_zero (codes "0041-(0)79-1234567") ≡ codes "0041-79-1234567"
unfolding without_zero with_zero is_country is_code dials_zero
hyphen_row = refl

italian_row : without_zero (codes "+39(0)66982") ≡ codes "+39066982"
unfolding without_zero with_zero is_country is_code dials_zero
italian_row = refl

sammarinese_row : without_zero (codes "00378-(0)549-882914") ≡ codes "00378-0549-882914"
unfolding without_zero with_zero is_country is_code dials_zero
sammarinese_row = refl

-- a (0) that stays: inside a number, at its end, and not after a country code
within_row : without_zero (codes "12(0)34") ≡ codes "12(0)34"
unfolding without_zero with_zero is_country is_code dials_zero
within_row = refl

behind_row : without_zero (codes "+41441(0)") ≡ codes "+41441(0)"
unfolding without_zero with_zero is_country is_code dials_zero
behind_row = refl

short_row : without_zero (codes "0(0)44") ≡ codes "0(0)44"
unfolding without_zero with_zero is_country is_code dials_zero
short_row = refl

home_row : without_zero (codes "(0)791234567") ≡ codes "(0)791234567"
unfolding without_zero with_zero is_country is_code dials_zero
home_row = refl

-- a secret without the equals signs at its end, which fill up base 32 to eight characters; unchanged if any other byte follows one
abbrev pub without_padding : List ℕ → List ℕ
without_padding secret = if list_all (is_byte 61) (after_first (is_byte 61) secret) then before_first (is_byte 61) secret else secret

padded_row : without_padding (codes "JBSWY3DP====") ≡ codes "JBSWY3DP"
padded_row = refl

named_row : without_padding (codes "SECRET=JBSWY3DP=") ≡ codes "SECRET=JBSWY3DP="
named_row = refl
