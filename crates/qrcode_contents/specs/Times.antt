-- Days and times, and their texts in iCalendar (RFC 5545, sections 3.3.4 and 3.3.5) and vCard (RFC 2426, section 3.1.5).
use Rattle.std.specs.Prelude.{◌≡◌, ℕ, nat_lt, nat_le, ◌+◌, ◌*◌, ◌/◌, ◌%◌, ◌==◌, ◌&&◌, ◌||◌, not, Bool, false, List, [], ◌∷◌, ◌++◌, Option, Some, None, take, drop, length, filter, flat_map, decimal, codes, if◌then◌else◌, refl}
use Rattle.std.specs.List.{list_all}
use Rattle.std.specs.Str.{bytes_eq}
use Rattle.std.specs.Str.Parse.{digits_value}
use Rattle.qrcode_types.specs.Characters.{is_digit}
use Rattle.qrcode_contents.specs.declared.times.Day.{Day}
use Rattle.qrcode_contents.specs.declared.times.Moment.{Moment}

abbrev pub is_leap : ℕ → Bool  -- a leap year of the Gregorian calendar
is_leap year = year % 4 == 0 && (not (year % 100 == 0) || year % 400 == 0)

abbrev pub days_in : ℕ → ℕ → ℕ  -- the number of days in a month of a year
days_in year month =
    if month == 2 then (if is_leap year then 29 else 28)
    else (if month == 4 || month == 6 || month == 9 || month == 11 then 30 else 31)

abbrev pub is_day : Day → Bool  -- a day that exists, in a year up to 9999
is_day d =
    nat_lt d.year 10000 && nat_lt 0 d.month && nat_lt d.month 13 && nat_lt 0 d.day && nat_le d.day (days_in d.year d.month)

abbrev pub wrong_day : Option Day → Bool  -- a day is given that does not exist
wrong_day None = false
wrong_day (Some d) = not (is_day d)

abbrev pub is_moment : Moment → Bool  -- a time that exists, on such a day; a minute may have a second 60
is_moment m = is_day m.day && nat_lt m.hour 24 && nat_lt m.minute 60 && nat_lt m.second 61

abbrev pub day_number : Day → ℕ  -- a day as a number, e.g. 19960415, which is larger for a later day
day_number d = (d.year * 100 + d.month) * 100 + d.day

abbrev pub moment_number : Moment → ℕ  -- a moment as a number, e.g. 19980119070000, which is larger for a later moment
moment_number m = ((day_number m.day * 100 + m.hour) * 100 + m.minute) * 100 + m.second

abbrev pub pair_text : ℕ → List ℕ  -- a number below 100 as two digits
pair_text n = decimal (n / 10) ++ decimal (n % 10)

abbrev pub pairs_text : List ℕ → List ℕ  -- numbers below 100, with two digits each
pairs_text numbers = flat_map pair_text numbers

unfoldable pub day_text : Day → List ℕ  -- a day as iCalendar writes it, e.g. 19960415
day_text d = pairs_text (d.year / 100 ∷ d.year % 100 ∷ d.month ∷ d.day ∷ [])

-- a day as vCard writes it, e.g. 1996-04-15
unfoldable pub date_text : Day → List ℕ
date_text d =
    pairs_text (d.year / 100 ∷ d.year % 100 ∷ []) ++ (codes "-" ++ (pairs_text (d.month ∷ []) ++ (codes "-" ++ pairs_text (d.day ∷ []))))

abbrev pub said_or_none : (Day → List ℕ) → Option Day → List ℕ  -- the text of a day; empty for None
said_or_none text None = []
said_or_none text (Some d) = text d

unfoldable pub moment_text : Moment → List ℕ  -- a moment as iCalendar writes it, e.g. 19980119T070000Z
moment_text m = day_text m.day ++ (codes "T" ++ (pairs_text (m.hour ∷ m.minute ∷ m.second ∷ []) ++ codes "Z"))

abbrev pub pair_at : ℕ → List ℕ → ℕ  -- the number of the two digits from index i on
pair_at i text = digits_value 10 (take 2 (drop i text))

abbrev pub day_in : List ℕ → Day  -- the day of the eight digits at the start of a text
day_in text = record { year = pair_at 0 text * 100 + pair_at 2 text; month = pair_at 4 text; day = pair_at 6 text }

unfoldable pub read_day : List ℕ → Option Day  -- the day of a text of eight digits; None for any other text
read_day text = if length text == 8 && list_all is_digit text then Some (day_in text) else None

-- the day of a text of eight digits, with hyphens or without
unfoldable pub read_date : List ℕ → Option Day
read_date text = read_day (filter (λ b. not (b == 45)) text)

abbrev pub moment_in : List ℕ → Moment  -- the moment at the start of a text with a T between day and time
moment_in text = record { day = day_in text; hour = pair_at 9 text; minute = pair_at 11 text; second = pair_at 13 text }

-- the moment of a text of digits with a T between day and time, and a Z for UTC at its end; None for any other text
unfoldable pub read_moment : List ℕ → Option Moment
read_moment text =
    if bytes_eq (take 1 (drop 8 text)) (codes "T") && bytes_eq (drop 15 text) (codes "Z") && list_all is_digit (take 8 text ++ take 6 (drop 9 text))
    then Some (moment_in text)
    else None

-- the printed birthday of RFC 2426, section 3.1.5
printed_date : read_date (codes "1996-04-15") ≡ Some (let d : Day = record { year = 1996; month = 4; day = 15 } in d)
unfolding read_date read_day
printed_date = refl

-- printed examples of RFC 5545, sections 3.3.4 and 3.3.5
printed_day : read_day (codes "19970714") ≡ Some (let d : Day = record { year = 1997; month = 7; day = 14 } in d)
unfolding read_day
printed_day = refl

printed_moment : read_moment (codes "19980119T070000Z") ≡ Some (let m : Moment = record { day = record { year = 1998; month = 1; day = 19 }; hour = 7; minute = 0; second = 0 } in m)
unfolding read_moment
printed_moment = refl

-- a printed time without a Z, which is local, and not read here
local_time : read_moment (codes "19980118T230000") ≡ None
unfolding read_moment
local_time = refl

-- a day with a letter
letter_day : read_day (codes "1997O714") ≡ None
unfolding read_day
letter_day = refl
