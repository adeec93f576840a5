-- Days and times as people write them, and times of other zones in UTC.
use Rattle.std.specs.Prelude.{◌≡◌, ℕ, zero, suc, nat_lt, nat_le, ◌+◌, ◌*◌, ◌/◌, ◌%◌, ◌==◌, ◌&&◌, ◌||◌, Bool, true, false, List, ◌∷◌, ◌++◌, length, slice_index, ◌-◌, Option, Some, None, is_some, if◌then◌else◌, codes, refl}
use Rattle.std.specs.List.{after_first, before_first, list_all}
use Rattle.std.specs.Option.{option_map, option_and_then}
use Rattle.qrcode_types.specs.Characters.{is_digit}
use Rattle.qrcode_contents.specs.declared.times.Day.{Day}
use Rattle.qrcode_contents.specs.declared.times.Moment.{Moment}
use Rattle.qrcode_contents.specs.fields.Characters.{matches_form}
use Rattle.qrcode_contents.specs.Times.{is_leap, days_in, is_moment}
use Rattle.qrcode_contents.specs.fields.Entries.{is_empty, is_filled}
use Rattle.qrcode_payloads.specs.Plain.{is_byte, plain}
use Rattle.qrcode_payloads.specs.declared.plain.Cleaning.TheVariants as cleaning
use Rattle.qrcode_payloads.specs.Numbers.{scaled_value, at_most_u64}

abbrev pub day_numbered : ℕ → Day  -- the day of a number such as 19970714
day_numbered n = record { year = n / 10000 % 10000; month = n / 100 % 100; day = n % 100 }

-- the number of a text of this many digits; None for any other text
abbrev pub exact_value : ℕ → List ℕ → Option ℕ
exact_value count text = if length text == count && list_all is_digit text then scaled_value 0 text else None

abbrev pub day_said : List ℕ → Option Day  -- the day of eight digits, which need not exist; None for any other text
day_said text = option_map day_numbered (exact_value 8 text)

-- a time of day as a number: six digits, or four without seconds (1700 gives 170000)
abbrev pub clock_number : List ℕ → Option ℕ
clock_number text =
    if length text == 4 then option_map (λ n. at_most_u64 (n * 100)) (exact_value 4 text) else exact_value 6 text

abbrev pub moment_at : Day → ℕ → Moment  -- the moment on a day at the time with this number, e.g. 170000
moment_at day n = record { day = day; hour = n / 10000 % 100; minute = n / 100 % 100; second = n % 100 }

abbrev pub ends_with_zed : List ℕ → Bool  -- the last byte is a Z
ends_with_zed text = slice_index text (length text - 1) == 90

-- ---- how far apart moments are

unfoldable pub days_before : ℕ → ℕ  -- the number of days in all years before this one, from year 0 on
days_before zero = 0
days_before (suc year) = days_before year + (if is_leap year then 366 else 365)

unfoldable pub days_through : ℕ → ℕ → ℕ  -- the number of days in the first months of a year, this many of them
days_through year zero = 0
days_through year (suc months) = days_through year months + days_in year (suc months)

abbrev pub day_count : Day → ℕ  -- the number of days from the start of year 0 to the end of a day
day_count d = days_before d.year + days_through d.year (d.month - 1) + d.day

abbrev pub minute_count : Moment → ℕ  -- a number for each minute, one more than for the minute before, across the ends of days, months and years
minute_count m = day_count m.day * 1440 + (m.hour * 60 + m.minute)

-- ---- time zones

abbrev pub day_after : Day → Day  -- the next day
day_after d =
    if nat_lt d.day (days_in d.year d.month) then record { year = d.year; month = d.month; day = d.day + 1 }
    else (if nat_lt d.month 12 then record { year = d.year; month = d.month + 1; day = 1 } else record { year = d.year + 1; month = 1; day = 1 })

abbrev pub day_before : Day → Option Day  -- the day before; None before year 0
day_before d =
    if nat_lt 1 d.day then Some (record { year = d.year; month = d.month; day = d.day - 1 })
    else (if nat_lt 1 d.month then Some (record { year = d.year; month = d.month - 1; day = days_in d.year (d.month - 1) })
    else (if d.year == 0 then None else Some (record { year = d.year - 1; month = 12; day = 31 })))

abbrev pub clock_minutes : Moment → ℕ  -- the minutes since midnight
clock_minutes m = m.hour * 60 + m.minute

abbrev pub with_minutes : Moment → Day → ℕ → Moment  -- the moment with another day and other minutes since midnight; the second stays
with_minutes m day n = record { day = day; hour = n / 60 % 24; minute = n % 60; second = m.second }

abbrev pub earlier : ℕ → Moment → Option Moment  -- the moment n minutes earlier, n being less than a day; None before year 0
earlier n m =
    if nat_le n (clock_minutes m) then Some (with_minutes m m.day (clock_minutes m - n))
    else option_map (λ day. with_minutes m day (clock_minutes m + 1440 - n)) (day_before m.day)

abbrev pub later : ℕ → Moment → Moment  -- the moment n minutes later, n being less than a day
later n m =
    if nat_lt (clock_minutes m + n) 1440 then with_minutes m m.day (clock_minutes m + n)
    else with_minutes m (day_after m.day) (clock_minutes m + n - 1440)

unfoldable pub local_said : List ℕ → List ℕ → Option Moment  -- the moment of a day and a time, in whatever zone they are
local_said day clock = option_and_then (λ d. option_map (moment_at d) (clock_number clock)) (day_said day)

-- the offset of a zone from UTC in minutes: two digits of hours, and two of minutes
unfoldable pub zone_minutes : List ℕ → Option ℕ
zone_minutes text =
    option_and_then (λ n. if nat_lt (n / 100) 24 && nat_lt (n % 100) 60 then Some (n / 100 * 60 + n % 100) else None) (exact_value 4 text)

-- a moment of a zone this many minutes ahead of UTC, or else behind it, in UTC; one that does not exist stays as it is, and is rejected later
unfoldable pub from_zone : Bool → Option ℕ → Moment → Option Moment
from_zone ahead None m = None
from_zone ahead (Some n) m = if is_moment m then (if ahead then earlier n m else Some (later n m)) else Some m

abbrev pub is_utc : List ℕ → Bool  -- the time has exactly one Z, at its end
is_utc time = ends_with_zed time && is_empty (after_first (is_byte 90) time)

-- a day, and a time with a zone such as +0200, in UTC
unfoldable pub zoned : List ℕ → List ℕ → Option Moment
zoned day time =
    if is_empty (after_first (is_byte 43) time)
    then option_and_then (from_zone false (zone_minutes (after_first (is_byte 45) time))) (local_said day (before_first (is_byte 45) time))
    else option_and_then (from_zone true (zone_minutes (after_first (is_byte 43) time))) (local_said day (before_first (is_byte 43) time))

-- a day, and a time with a Z or a zone, in UTC
unfoldable pub moment_of : List ℕ → List ℕ → Option Moment
moment_of day time = if is_utc time then local_said day (before_first (is_byte 90) time) else zoned day time

-- a day such as 1997-07-14 without its hyphens; any other text unchanged
unfoldable pub plain_day : List ℕ → List ℕ
plain_day text = if matches_form (codes "dddd-dd-dd") text then plain cleaning.Digits text else text

-- a time, perhaps with Z or a zone, that has colons where ISO 8601 has them; the zone may lack its colon
unfoldable pub has_colons : List ℕ → Bool
has_colons time =
    matches_form (codes "dd:dd") time || matches_form (codes "dd:dd:dd") time || matches_form (codes "dd:ddZ") time || matches_form (codes "dd:dd:ddZ") time || matches_form (codes "dd:ddsdd:dd") time || matches_form (codes "dd:dd:ddsdd:dd") time || matches_form (codes "dd:ddsdddd") time || matches_form (codes "dd:dd:ddsdddd") time

-- such a time without its colons; any other text unchanged
unfoldable pub plain_clock : List ℕ → List ℕ
plain_clock time = if has_colons time then plain cleaning.Clock time else time

-- a day, or a day and a time, without the hyphens and colons of ISO 8601; a space becomes a T
unfoldable pub plain_time : List ℕ → List ℕ
plain_time text =
    let written = plain cleaning.Time text in
    if is_filled (after_first (is_byte 84) written)
    then plain_day (before_first (is_byte 84) written) ++ (84 ∷ plain_clock (after_first (is_byte 84) written))
    else plain_day written

-- a day, a T, a time, and a Z or a zone, in UTC; None for any other text
abbrev pub moment_said : List ℕ → Option Moment
moment_said text = moment_of (before_first (is_byte 84) text) (after_first (is_byte 84) text)

abbrev pub is_local : List ℕ → Bool  -- a day and a time without a zone
is_local text = is_some (local_said (before_first (is_byte 84) text) (after_first (is_byte 84) text))

-- printed examples of RFC 5545, sections 3.3.4 and 3.3.5, and one without seconds
printed_day : day_said (codes "19970714") ≡ Some (let d : Day = record { year = 1997; month = 7; day = 14 } in d)
printed_day = refl

printed_moment : moment_said (codes "19980119T070000Z") ≡ Some (let m : Moment = record { day = record { year = 1998; month = 1; day = 19 }; hour = 7; minute = 0; second = 0 } in m)
unfolding moment_of zoned local_said zone_minutes from_zone
printed_moment = refl

short_moment : moment_said (codes "19980119T0700Z") ≡ moment_said (codes "19980119T070000Z")
unfolding moment_of zoned local_said zone_minutes from_zone
short_moment = refl

-- printed examples of RFC 3339, section 5.8: the same moment in two zones, on different days, and a leap second
zone_row : moment_said (codes "19961219T163957-0800") ≡ moment_said (codes "19961220T003957Z")
unfolding moment_of zoned local_said zone_minutes from_zone
zone_row = refl

leap_row : moment_said (codes "19901231T155960-0800") ≡ moment_said (codes "19901231T235960Z")
unfolding moment_of zoned local_said zone_minutes from_zone
leap_row = refl

-- across the end of a year, and from 28 to 29 February in a leap year
year_row : moment_said (codes "20270101T0030+0100") ≡ moment_said (codes "20261231T2330Z")
unfolding moment_of zoned local_said zone_minutes from_zone
year_row = refl

february_row : moment_said (codes "20000228T2330-0045") ≡ moment_said (codes "20000229T0015Z")
unfolding moment_of zoned local_said zone_minutes from_zone
february_row = refl

-- a time without a zone, and zones with too many hours or minutes
local_row : moment_said (codes "19980118T230000") ≡ None
unfolding moment_of zoned local_said zone_minutes from_zone
local_row = refl

wide_row : moment_said (codes "19980118T230000+2400") ≡ None
unfolding moment_of zoned local_said zone_minutes from_zone
wide_row = refl

minutes_row : moment_said (codes "19980118T230000+0060") ≡ None
unfolding moment_of zoned local_said zone_minutes from_zone
minutes_row = refl

-- a zone with seconds
seconds_row : moment_said (codes "19980118T230000+020000") ≡ None
unfolding moment_of zoned local_said zone_minutes from_zone
seconds_row = refl

-- colons as in ISO 8601; without leading zeros the colons stay, so that nothing is read
colons_row : has_colons (codes "14:00:30-01:00") ≡ true
unfolding has_colons
colons_row = refl

zeros_row : has_colons (codes "1:4:30Z") ≡ false
unfolding has_colons
zeros_row = refl

early_row : plain_day (codes "-1970-01-31") ≡ codes "-1970-01-31"
unfolding plain_day
early_row = refl
