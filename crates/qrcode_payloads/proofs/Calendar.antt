-- Counting days and minutes across the ends of months and years.
use Rattle.std.proofs.Common.{◌≡◌, ℕ, zero, suc, nat_lt, ◌+◌, ◌-◌, ◌*◌, ◌/◌, ◌%◌, ◌<◌, ◌≤◌, ◌==◌, Bool, true, false, Some, if◌then◌else◌, refl, ap, ◌∙◌, sym, subst, arith}
use Rattle.std.specs.Prelude.{IfSome}
use Rattle.std.proofs.lemmas.Bool.Decides.{nat_tests}
use Rattle.qrcode_contents.specs.declared.times.Day.{Day}
use Rattle.qrcode_contents.specs.declared.times.Moment.{Moment}
use Rattle.qrcode_contents.specs.Times.{is_leap, days_in, is_day, is_moment}
use Rattle.qrcode_payloads.specs.Times.{days_before, days_through, day_count, minute_count, day_after, day_before, clock_minutes, with_minutes}

-- a day that exists
record IsReal (d : Day) : Type 0 where
  year : d.year < 10000
  january : 0 < d.month
  december : d.month ≤ 12
  first : 0 < d.day
  last : d.day ≤ days_in d.year d.month

real : (d : Day) → is_day d ≡ true → IsReal d
real d is = record {
  year = grind (arith, nat_tests, is);
  january = grind (arith, nat_tests, is);
  december = grind (arith, nat_tests, is);
  first = grind (arith, nat_tests, is);
  last = grind (arith, nat_tests, is);
}

year_by : (year : ℕ) (leap : Bool) → is_leap year ≡ leap → days_through year 11 + 31 ≡ (if is_leap year then 366 else 365)
unfolding days_through
year_by year leap h = grind (arith, nat_tests)

-- the months of a year have as many days as the year
next_year : (year : ℕ) → days_before (year + 1) ≡ days_before year + (days_through year 11 + 31)
unfolding days_before
next_year year =
    let next : year + 1 ≡ suc year = omega arith in
    ap days_before next ∙ ap (λ days. days_before year + days) (sym (year_by year (is_leap year) refl))

next_month : (year month : ℕ) → 0 < month → days_through year month ≡ days_through year (month - 1) + days_in year month
unfolding days_through
next_month year zero some = absurd (omega (arith, some))
next_month year (suc before) some =
    let same : suc before - 1 ≡ before = omega arith in
    rw same refl

no_months : (year : ℕ) → days_through year (1 - 1) ≡ 0
unfolding days_through
no_months year = refl

-- 1 January comes one day after 31 December
over_year : (year : ℕ) → days_before (year + 1) + days_through (year + 1) (1 - 1) + 1 ≡ days_before year + days_through year 11 + 31 + 1
over_year year =
    let next = next_year year in
    let none = no_months (year + 1) in
    omega (arith, next, none)

after_by : (d : Day) → IsReal d → (inside early : Bool) → nat_lt d.day (days_in d.year d.month) ≡ inside → nat_lt d.month 12 ≡ early → day_count (day_after d) ≡ day_count d + 1
after_by d is true early i j = rw i (omega arith)
after_by d is false true i j =
    let last : d.day ≡ days_in d.year d.month = let most = is.last in grind (arith, nat_tests, i, most) in
    let same : d.month + 1 - 1 ≡ d.month = omega arith in
    let next = next_month d.year d.month is.january in
    rw (i, j, same) (omega (arith, last, next))
after_by d is false false i j =
    let month : d.month ≡ 12 = let most = is.december in grind (arith, nat_tests, j, most) in
    let last : d.day ≡ days_in d.year d.month = let most = is.last in grind (arith, nat_tests, i, most) in
    let days : days_in d.year d.month ≡ 31 = ap (days_in d.year) month in
    let through : days_through d.year (d.month - 1) ≡ days_through d.year 11 = ap (λ m. days_through d.year (m - 1)) month in
    let over = over_year d.year in
    rw (i, j) (omega (arith, last, days, through, over))

-- the next day is one day later
after_counts : (d : Day) → is_day d ≡ true → day_count (day_after d) ≡ day_count d + 1
after_counts d is = after_by d (real d is) (nat_lt d.day (days_in d.year d.month)) (nat_lt d.month 12) refl refl

before_by : (d : Day) → IsReal d → (inside late first : Bool) → nat_lt 1 d.day ≡ inside → nat_lt 1 d.month ≡ late → (d.year == 0) ≡ first → IfSome (day_before d) (λ e. day_count e + 1 ≡ day_count d)
before_by d is true late first i j k =
    let more : 1 < d.day = grind (arith, nat_tests, i) in
    rw i (omega (arith, more))
before_by d is false true first i j k =
    let day : d.day ≡ 1 = let least = is.first in grind (arith, nat_tests, i, least) in
    let some : 0 < d.month - 1 = grind (arith, nat_tests, j) in
    let next = next_month d.year (d.month - 1) some in
    rw (i, j) (omega (arith, day, next))
before_by d is false false true i j k = rw (i, j, k) tt
before_by d is false false false i j k =
    let day : d.day ≡ 1 = let least = is.first in grind (arith, nat_tests, i, least) in
    let month : d.month ≡ 1 = let least = is.january in grind (arith, nat_tests, j, least) in
    let later : d.year - 1 + 1 ≡ d.year = grind (arith, nat_tests, k) in
    let over = over_year (d.year - 1) in
    let years : days_before (d.year - 1 + 1) ≡ days_before d.year = ap days_before later in
    let none = no_months (d.year - 1 + 1) in
    let through : days_through d.year (d.month - 1) ≡ 0 = ap (λ m. days_through d.year (m - 1)) month ∙ no_months d.year in
    rw (i, j, k) (omega (arith, day, over, years, none, through))

-- the day before is one day earlier
before_counts : (d : Day) → is_day d ≡ true → IfSome (day_before d) (λ e. day_count e + 1 ≡ day_count d)
before_counts d is = before_by d (real d is) (nat_lt 1 d.day) (nat_lt 1 d.month) (d.year == 0) refl refl refl

-- ---- minutes

-- a moment that exists
record IsRealMoment (m : Moment) : Type 0 where
  day : is_day m.day ≡ true
  clock : clock_minutes m < 1440

real_moment : (m : Moment) → is_moment m ≡ true → IsRealMoment m
real_moment m is = record { day = grind (arith, nat_tests, is); clock = grind (arith, nat_tests, is) }

clock_kept : (n : ℕ) → n < 1440 → n / 60 % 24 * 60 + n % 60 ≡ n
clock_kept n small = omega (arith, small)

with_counts : (m : Moment) (day : Day) (n : ℕ) → n < 1440 → minute_count (with_minutes m day n) ≡ day_count day * 1440 + n
with_counts m day n small = ap (λ minutes. day_count day * 1440 + minutes) (clock_kept n small)

earlier_over : (n : ℕ) (m : Moment) (day : Day) → IsRealMoment m → n < 1440 → clock_minutes m < n → day_count day + 1 ≡ day_count m.day → minute_count (with_minutes m day (clock_minutes m + 1440 - n)) + n ≡ minute_count m
earlier_over n m day is small early before =
    let counts = with_counts m day (clock_minutes m + 1440 - n) (omega (arith, early)) in
    ap (λ minutes. minutes + n) counts ∙ (omega (arith, early, small) ∙ ap (λ days. days * 1440 + clock_minutes m) before)

later_over : (n : ℕ) (m : Moment) → IsRealMoment m → n < 1440 → 1440 ≤ clock_minutes m + n → minute_count (with_minutes m (day_after m.day) (clock_minutes m + n - 1440)) ≡ minute_count m + n
later_over n m is small over =
    let clock = is.clock in
    let counts = with_counts m (day_after m.day) (clock_minutes m + n - 1440) (omega (arith, clock, small)) in
    counts ∙ (ap (λ days. days * 1440 + (clock_minutes m + n - 1440)) (after_counts m.day is.day) ∙ omega (arith, over))

-- n minutes earlier, on the day before
pub before_midnight : (n : ℕ) (m : Moment) (day : Day) (clock : ℕ) (r : Moment) → is_moment m ≡ true → n < 1440 → clock ≡ clock_minutes m → clock < n → day_before m.day ≡ Some day → r ≡ with_minutes m day (clock + 1440 - n) → minute_count r + n ≡ minute_count m
before_midnight n m day clock r is small same early before made =
    let moment = real_moment m is in
    let counted : day_count day + 1 ≡ day_count m.day = subst (λ o. IfSome o (λ e. day_count e + 1 ≡ day_count m.day)) before (before_counts m.day moment.day) in
    ap (λ x. minute_count x + n) made
    ∙ ap (λ k. minute_count (with_minutes m day (k + 1440 - n)) + n) same
    ∙ earlier_over n m day moment small (subst (λ k. k < n) same early) counted

-- n minutes later, on the next day
pub past_midnight : (n : ℕ) (m : Moment) (day : Day) (clock : ℕ) (r : Moment) → is_moment m ≡ true → n < 1440 → clock ≡ clock_minutes m → 1440 ≤ clock + n → day ≡ day_after m.day → r ≡ with_minutes m day (clock + n - 1440) → minute_count r ≡ minute_count m + n
past_midnight n m day clock r is small same over after made =
    let moment = real_moment m is in
    ap minute_count made
    ∙ ap (λ d. minute_count (with_minutes m d (clock + n - 1440))) after
    ∙ ap (λ k. minute_count (with_minutes m (day_after m.day) (k + n - 1440))) same
    ∙ later_over n m moment small (subst (λ k. 1440 ≤ k + n) same over)
