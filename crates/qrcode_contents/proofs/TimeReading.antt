-- Days and moments are read back.
use Rattle.std.proofs.Common.{◌≡◌, ℕ, ◌+◌, ◌*◌, ◌/◌, ◌%◌, ◌<◌, ◌≤◌, ◌==◌, List, [], ◌∷◌, ◌++◌, true, false, not, filter, Option, None, Some, if◌then◌else◌, refl, ap, ap₂, ◌∙◌, sym, subst, arith}
use Rattle.std.specs.Str.Parse.{digits_value}
use Rattle.std.proofs.lemmas.Bool.Decides.{nat_tests}
use Rattle.std.proofs.lemmas.Fmt.{decimal_digit}
use Rattle.std.proofs.lemmas.Int.Digits.{digits_value_push}
use Rattle.qrcode_contents.specs.fields.Entries.{is_filled, read_or_none}
use Rattle.qrcode_contents.proofs.ContentParts.{IsPlain, plain_nothing}
use Rattle.qrcode_contents.proofs.DigitReading.{AreDigits, AreDigits-two, value_of_digit}
use Rattle.qrcode_contents.proofs.EntryReading.{holds}
use Rattle.qrcode_contents.specs.declared.times.Day.{Day}
use Rattle.qrcode_contents.specs.declared.times.Moment.{Moment}
use Rattle.qrcode_contents.specs.Times.{days_in, is_day, wrong_day, is_moment, pair_text, day_text, date_text, said_or_none, moment_text, day_in, moment_in, read_day, read_date, read_moment}

-- a number below 100 has two digits
pub pair_digits : (n : ℕ) → n < 100 → pair_text n ≡ (48 + n / 10) ∷ (48 + n % 10) ∷ []
pair_digits n small =
    ap₂ (λ xs ys. xs ++ ys) (decimal_digit (n / 10) (omega arith)) (decimal_digit (n % 10) (omega arith))

-- two digits are read back
pair_read : (n : ℕ) → n < 100 → digits_value 10 ((48 + n / 10) ∷ (48 + n % 10) ∷ []) ≡ n
pair_read n small =
    digits_value_push 10 ((48 + n / 10) ∷ []) (48 + n % 10)
    ∙ ap₂ (λ x y. x * 10 + y) (digits_value_push 10 [] (48 + n / 10) ∙ ap (λ x. 0 * 10 + x) (value_of_digit (n / 10) (omega arith))) (value_of_digit (n % 10) (omega arith))
    ∙ omega arith

days_at_most : (year month : ℕ) → days_in year month ≤ 31
days_at_most year month = grind (arith, nat_tests)

-- the numbers of a day fit their digits
record IsSmall (d : Day) : Type 0 where
  year : d.year < 10000
  month : d.month < 100
  day : d.day < 100

small_day : (d : Day) → is_day d ≡ true → IsSmall d
small_day d is =
    let most = days_at_most d.year d.month in
    record { year = grind (arith, nat_tests, is); month = grind (arith, nat_tests, is); day = grind (arith, nat_tests, is, most) }

-- two digits, before other bytes
abbrev pair_then : ℕ → List ℕ → List ℕ
pair_then n rest = (48 + n / 10) ∷ (48 + n % 10) ∷ rest

-- the digits of a day, before other bytes
abbrev pub digits_then : Day → List ℕ → List ℕ
digits_then d rest =
    pair_then (d.year / 100) (pair_then (d.year % 100) (pair_then d.month (pair_then d.day rest)))

day_digits : (d : Day) → IsSmall d → day_text d ≡ digits_then d []
unfolding day_text
day_digits d is =
    rw (pair_digits (d.year / 100) (let y = is.year in omega (arith, y)), pair_digits (d.year % 100) (omega arith), pair_digits d.month is.month, pair_digits d.day is.day) refl

same_day : (d : Day) (century rest month day : ℕ) → century ≡ d.year / 100 → rest ≡ d.year % 100 → month ≡ d.month → day ≡ d.day → (let x : Day = record { year = century * 100 + rest; month = month; day = day } in x) ≡ d
same_day d century rest month day h₁ h₂ h₃ h₄ =
    let year : d.year / 100 * 100 + d.year % 100 ≡ d.year = omega arith in
    rw (h₁, h₂, h₃, h₄, year) refl

-- the day that digits begin with
day_begins : (d : Day) (rest : List ℕ) → IsSmall d → day_in (digits_then d rest) ≡ d
day_begins d rest is =
    same_day d _ _ _ _ (pair_read (d.year / 100) (let y = is.year in omega (arith, y))) (pair_read (d.year % 100) (omega arith)) (pair_read d.month is.month) (pair_read d.day is.day)

AreDigits-pair : (n : ℕ) (rest : List ℕ) → n < 100 → AreDigits rest → AreDigits (pair_then n rest)
AreDigits-pair n rest small are = AreDigits-two (n / 10) (n % 10) rest (omega arith) (omega arith) are

AreDigits-day : (d : Day) (rest : List ℕ) → IsSmall d → AreDigits rest → AreDigits (digits_then d rest)
AreDigits-day d rest small are =
    let year = small.year in
    let from_day = pair_then d.day rest in
    let from_month = pair_then d.month from_day in
    AreDigits-pair (d.year / 100) (pair_then (d.year % 100) from_month) (omega (arith, year))
    (AreDigits-pair (d.year % 100) from_month (omega arith)
    (AreDigits-pair d.month from_day small.month (AreDigits-pair d.day rest small.day are)))

-- a day is read back
pub day_read : (d : Day) → is_day d ≡ true → read_day (day_text d) ≡ Some d
unfolding read_day
day_read d is =
    let small = small_day d is in
    ap read_day (day_digits d small)
    ∙ ap (λ digits. if digits then Some (day_in (digits_then d [])) else None) (AreDigits-day d [] small refl)
    ∙ ap Some (day_begins d [] small)

-- the text after the day of a moment
abbrev clock_digits : Moment → List ℕ
clock_digits m =
    84 ∷ (48 + m.hour / 10) ∷ (48 + m.hour % 10) ∷ (48 + m.minute / 10) ∷ (48 + m.minute % 10) ∷ (48 + m.second / 10) ∷ (48 + m.second % 10) ∷ 90 ∷ []

-- the text of a moment
abbrev moment_digits : Moment → List ℕ
moment_digits m = digits_then m.day (clock_digits m)

-- the numbers of a moment fit their digits
record IsShort (m : Moment) : Type 0 where
  day : IsSmall m.day
  hour : m.hour < 100
  minute : m.minute < 100
  second : m.second < 100

short_moment : (m : Moment) → is_moment m ≡ true → IsShort m
short_moment m is =
    let valid : is_day m.day ≡ true = grind (arith, nat_tests, is) in
    record {
      day = small_day m.day valid;
      hour = grind (arith, nat_tests, is);
      minute = grind (arith, nat_tests, is);
      second = grind (arith, nat_tests, is);
    }

moment_written : (m : Moment) → IsShort m → moment_text m ≡ moment_digits m
unfolding moment_text
moment_written m is =
    rw (day_digits m.day is.day, pair_digits m.hour is.hour, pair_digits m.minute is.minute, pair_digits m.second is.second) refl

same_moment : (m : Moment) (day : Day) (hour minute second : ℕ) → day ≡ m.day → hour ≡ m.hour → minute ≡ m.minute → second ≡ m.second → (let x : Moment = record { day = day; hour = hour; minute = minute; second = second } in x) ≡ m
same_moment m day hour minute second h₁ h₂ h₃ h₄ = rw (h₁, h₂, h₃, h₄) refl

-- a moment is read back
pub moment_read : (m : Moment) → is_moment m ≡ true → read_moment (moment_text m) ≡ Some m
unfolding read_moment
moment_read m is =
    let short = short_moment m is in
    let from_second = pair_then m.second [] in
    let from_minute = pair_then m.minute from_second in
    let clock = AreDigits-pair m.hour from_minute short.hour (AreDigits-pair m.minute from_second short.minute (AreDigits-pair m.second [] short.second refl)) in
    ap read_moment (moment_written m short)
    ∙ ap (λ digits. if digits then Some (moment_in (moment_digits m)) else None) (AreDigits-day m.day (pair_then m.hour from_minute) short.day clock)
    ∙ ap Some (same_moment m _ _ _ _ (day_begins m.day (clock_digits m) short.day) (pair_read m.hour short.hour) (pair_read m.minute short.minute) (pair_read m.second short.second))

digit_plain : (n : ℕ) → ((48 + n) == 13) ≡ false
digit_plain n = grind (arith, nat_tests)

digit_no_feed : (n : ℕ) → ((48 + n) == 10) ≡ false
digit_no_feed n = grind (arith, nat_tests)

plain_digits : (a b : ℕ) (rest : List ℕ) → IsPlain rest → IsPlain ((48 + a) ∷ (48 + b) ∷ rest)
plain_digits a b rest is = record {
  no_return = rw (digit_plain a, digit_plain b) is.no_return;
  no_feed = rw (digit_no_feed a, digit_no_feed b) is.no_feed;
}

plain_day : (d : Day) (rest : List ℕ) → IsPlain rest → IsPlain (digits_then d rest)
plain_day d rest is =
    plain_digits _ _ _ (plain_digits _ _ _ (plain_digits _ _ _ (plain_digits _ _ rest is)))

-- the text of a day has no line break
pub IsPlain-day : (d : Day) → is_day d ≡ true → IsPlain (day_text d)
IsPlain-day d is = subst IsPlain (sym (day_digits d (small_day d is))) (plain_day d [] plain_nothing)

-- the text of a moment has no line break
pub IsPlain-moment : (m : Moment) → is_moment m ≡ true → IsPlain (moment_text m)
IsPlain-moment m is =
    let zone : IsPlain (90 ∷ []) = record { no_return = refl; no_feed = refl } in
    let time = plain_digits (m.hour / 10) (m.hour % 10) _ (plain_digits (m.minute / 10) (m.minute % 10) _ (plain_digits (m.second / 10) (m.second % 10) (90 ∷ []) zone)) in
    subst IsPlain (sym (moment_written m (short_moment m is)))
    (plain_day m.day (clock_digits m) (record { no_return = time.no_return; no_feed = time.no_feed }))

pub filled_moment : (m : Moment) → is_moment m ≡ true → is_filled (moment_text m) ≡ true
filled_moment m is = ap is_filled (moment_written m (short_moment m is))

-- the text of a day is not empty
pub filled_day : (d : Day) → is_day d ≡ true → is_filled (day_text d) ≡ true
filled_day d is = ap is_filled (day_digits d (small_day d is))

-- a day that is given or left out is read back
pub day_or_none_read : (day : Option Day) → wrong_day day ≡ false → read_or_none read_day (said_or_none day_text day) ≡ Some day
day_or_none_read None is = refl
day_or_none_read (Some d) is = let valid = holds (is_day d) is in rw (filled_day d valid, day_read d valid) refl

-- ---- with hyphens

-- the digits of a day with hyphens between year, month and day
abbrev date_digits : Day → List ℕ
date_digits d =
    (48 + d.year / 100 / 10) ∷ (48 + d.year / 100 % 10) ∷ (48 + d.year % 100 / 10) ∷ (48 + d.year % 100 % 10) ∷ 45
    ∷ (48 + d.month / 10) ∷ (48 + d.month % 10) ∷ 45 ∷ (48 + d.day / 10) ∷ (48 + d.day % 10) ∷ []

date_written : (d : Day) → IsSmall d → date_text d ≡ date_digits d
unfolding date_text
date_written d is =
    rw (pair_digits (d.year / 100) (let y = is.year in omega (arith, y)), pair_digits (d.year % 100) (omega arith), pair_digits d.month is.month, pair_digits d.day is.day) refl

digit_no_hyphen : (n : ℕ) → ((48 + n) == 45) ≡ false
digit_no_hyphen n = grind (arith, nat_tests)

-- without hyphens, the digits of the day remain
kept_digits : (d : Day) → filter (λ b. not (b == 45)) (date_digits d) ≡ digits_then d []
kept_digits d =
    rw (digit_no_hyphen (d.year / 100 / 10), digit_no_hyphen (d.year / 100 % 10), digit_no_hyphen (d.year % 100 / 10), digit_no_hyphen (d.year % 100 % 10), digit_no_hyphen (d.month / 10), digit_no_hyphen (d.month % 10), digit_no_hyphen (d.day / 10), digit_no_hyphen (d.day % 10)) refl

date_read : (d : Day) → is_day d ≡ true → read_date (date_text d) ≡ Some d
unfolding read_date
date_read d is =
    let small = small_day d is in
    ap (λ text. read_day (filter (λ b. not (b == 45)) text)) (date_written d small)
    ∙ ap read_day (kept_digits d ∙ sym (day_digits d small))
    ∙ day_read d is

-- a day with hyphens that is given or left out is read back
pub date_or_none_read : (day : Option Day) → wrong_day day ≡ false → read_or_none read_date (said_or_none date_text day) ≡ Some day
date_or_none_read None is = refl
date_or_none_read (Some d) is =
    let valid = holds (is_day d) is in
    let some : is_filled (date_text d) ≡ true = ap is_filled (date_written d (small_day d valid)) in
    rw (some, date_read d valid) refl

plain_hyphen : (rest : List ℕ) → IsPlain rest → IsPlain (45 ∷ rest)
plain_hyphen rest is = record { no_return = is.no_return; no_feed = is.no_feed }

-- the text of a day with hyphens has no line break
pub IsPlain-date : (day : Option Day) → wrong_day day ≡ false → IsPlain (said_or_none date_text day)
IsPlain-date None is = plain_nothing
IsPlain-date (Some d) is =
    subst IsPlain (sym (date_written d (small_day d (holds (is_day d) is))))
    (plain_digits _ _ _ (plain_digits _ _ _ (plain_hyphen _ (plain_digits _ _ _ (plain_hyphen _ (plain_digits _ _ [] plain_nothing))))))
