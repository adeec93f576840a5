-- Which elements are rejected, and why.
use Rattle.std.specs.Prelude.{◌≡◌, ◌⊎◌, ℕ, nat_lt, ◌==◌, ◌&&◌, ◌||◌, ◌+◌, ◌-◌, ◌*◌, ◌%◌, not, Bool, true, false, List, [], ◌∷◌, length, take, drop, Option, Some, None, if◌then◌else◌, Result, Ok, Err, codes, refl}
use Rattle.std.specs.List.{list_all}
use Rattle.std.specs.declared.alloc.Global.{Global}
use Rattle.std.specs.declared.vec.Vec.{Vec}
use Rattle.qrcode_types.specs.Characters.{is_between, is_digit}
use Rattle.qrcode_gs1.specs.declared.errors.Cause.{Cause}
use Rattle.qrcode_gs1.specs.declared.errors.Cause.TheVariants.{UnknownIdentifier, Length, Character, CheckDigit, Range}
use Rattle.qrcode_gs1.specs.declared.errors.Gs1Error.{Gs1Error}
use Rattle.qrcode_gs1.specs.declared.errors.Gs1Error.TheVariants.{Refused, OutOfMemory}
use Rattle.qrcode_gs1.specs.Elements.{Item, decimal_value, prefix_of, digit_count, fixed_length, is_fixed}
use Rattle.qrcode_gs1.specs.Table.{Rule, rules}

-- one of the 82 characters: digits, letters, and ! " % & ' ( ) * + , - . / : ; < = > ? _
unfoldable pub is_character : ℕ → Bool
is_character b =
    is_between 33 34 b || is_between 37 63 b || is_between 65 90 b || b == 95 || is_between 97 122 b

abbrev pub first_rule : List Rule → ℕ → Option Rule  -- the first rule for this number
first_rule [] n = None
first_rule (rule ∷ rules) n = if is_between rule.0.0 rule.0.1 n then Some rule else first_rule rules n

-- the rule for this number: from 3100 to 3699 the last digit is the number of decimals, at most 5
unfoldable pub numbered_rule : List Rule → ℕ → Option Rule
numbered_rule rules n = if is_between 3100 3699 n && nat_lt 5 (n % 10) then None else first_rule rules n

abbrev pub is_identifier : List ℕ → Bool  -- an identifier is digits, as many as its first two say
is_identifier bytes = (length bytes == digit_count (prefix_of bytes)) && list_all is_digit bytes

abbrev pub rule_of : List ℕ → Option Rule  -- the rule for an identifier
rule_of bytes = if is_identifier bytes then numbered_rule rules (decimal_value bytes) else None

abbrev pub weighted_sum : List ℕ → ℕ  -- the sum of the digits, with weight 1 for the last, 3 for the one before it, and so on in turn
weighted_sum [] = 0
weighted_sum (digit ∷ digits) = (1 + 2 * (length digits % 2)) * (digit - 48) + weighted_sum digits

abbrev pub has_check_digit : List ℕ → Bool  -- the last digit makes the weighted sum a multiple of ten
has_check_digit digits = weighted_sum digits % 10 == 0

-- printed examples of 18, 14 and 13 digits, and one with a wrong digit
logistic_unit_row : has_check_digit (codes "106141412345678908") ≡ true
logistic_unit_row = refl

trade_item_row : has_check_digit (codes "09506000134352") ≡ true
trade_item_row = refl

location_row : has_check_digit (codes "4006381333931") ≡ true
location_row = refl

wrong_row : has_check_digit (codes "09506000134353") ≡ false
wrong_row = refl

-- the value has a length that the rule allows and, if it is predefined, the one that the identifier's first digits say
abbrev pub has_length : Rule → Item → Bool
has_length rule item =
    is_between rule.1.0 rule.1.1 (length item.1)
    && (not (is_fixed item.0) || (length item.0 + length item.1 == fixed_length (prefix_of item.0)))

abbrev pub is_written : Rule → List ℕ → Bool  -- the value has only characters that GS1 has, and digits where the rule needs them
is_written rule value = list_all is_character value && list_all is_digit (take rule.2 value)

abbrev pub is_dated : List ℕ → Bool  -- an identifier whose value is a date of six digits: 11 to 13 and 15 to 17
is_dated bytes = is_between 11 13 (prefix_of bytes) || is_between 15 17 (prefix_of bytes)

abbrev pub days_in : ℕ → ℕ → ℕ  -- how many days a month has, in a year of these last two digits; 00 is 2000
days_in year month =
    if month == 2 then (if year % 4 == 0 then 29 else 28)
    else (if month == 4 || month == 6 || month == 9 || month == 11 then 30 else 31)

abbrev pub pair_at : ℕ → List ℕ → ℕ  -- the number of the two digits at a place
pair_at i digits = decimal_value (take 2 (drop i digits))

-- six digits of year, month and day; day 00 leaves the day open
unfoldable pub is_date : List ℕ → Bool
is_date digits =
    length digits == 6 && is_between 1 12 (pair_at 2 digits) && not (nat_lt (days_in (pair_at 0 digits) (pair_at 2 digits)) (pair_at 4 digits))

-- 29 February of 2000, a day that is left open, a 31st of June, and month 13
leap_row : is_date (codes "000229") ≡ true
unfolding is_date
leap_row = refl

open_row : is_date (codes "271200") ≡ true
unfolding is_date
open_row = refl

june_row : is_date (codes "270631") ≡ false
unfolding is_date
june_row = refl

month_row : is_date (codes "271301") ≡ false
unfolding is_date
month_row = refl

abbrev pub cause_by : Rule → Item → Option Cause  -- what is wrong with an element that has this rule
cause_by rule item =
    if not (has_length rule item) then Some Length
    else (if not (is_written rule item.1) then Some Character
    else (if not (has_check_digit (take rule.3 item.1)) then Some CheckDigit
    else (if is_dated item.0 && not (is_date item.1) then Some Range else None)))

abbrev pub cause_found : Option Rule → Item → Option Cause  -- what is wrong with an element, by its rule if it has one
cause_found None item = Some UnknownIdentifier
cause_found (Some rule) item = cause_by rule item

abbrev pub cause_of : Item → Option Cause
cause_of item = cause_found (rule_of item.0) item

-- the cause at this index, or else the error of the elements after it
abbrev pub refusal_or : Option Cause → ℕ → Option Gs1Error → Option Gs1Error
refusal_or None index later = later
refusal_or (Some cause) index later = Some (Refused index cause)

-- the first wrong element, of those from this index on
abbrev pub refusal_from : ℕ → List Item → Option Gs1Error
refusal_from index [] = None
refusal_from index (item ∷ items) = refusal_or (cause_of item) index (refusal_from (index + 1) items)

abbrev pub checked : Option Gs1Error → Result (Unit {0}) Gs1Error  -- the result of the check
checked None = Ok tt
checked (Some e) = Err e

-- if no element is wrong, bytes with this property; else the error; or in either case memory ran out
abbrev pub Answers : Option Gs1Error → Result (Vec ℕ Global) Gs1Error → (List ℕ → Type 0) → Type 0
Answers refusal (Ok bytes) P = (refusal ≡ None) × P bytes.items
Answers refusal (Err e) P = (refusal ≡ Some e) ⊎ (e ≡ OutOfMemory)
