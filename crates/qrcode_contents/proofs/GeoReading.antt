-- The text of a place is read back.
use Rattle.std.proofs.Common.{◌≡◌, ℕ, zero, suc, nat_lt, ◌+◌, ◌-◌, ◌*◌, ◌/◌, ◌%◌, ◌<◌, ◌≤◌, ◌^◌, ◌==◌, ◌||◌, List, [], ◌∷◌, ◌++◌, Bool, true, false, Some, None, length, decimal, ℤ, pos, negsuc, unsigned_abs, refl, ap, ap₂, ◌∙◌, sym, arith, append_assoc, append-nil, lit<, ⊎_elim, subst}
use Rattle.std.specs.Int.{is_negative}
use Rattle.std.specs.List.{list_any}
use Rattle.std.specs.Option.{option_map}
use Rattle.std.proofs.Math.Nat.{pow-suc, div-mul-le_self, mul-le-mul_right}
use Rattle.std.proofs.lemmas.Bool.{cases_lt}
use Rattle.std.proofs.lemmas.Bool.Decides.{nat_tests}
use Rattle.std.proofs.lemmas.List.{length-append}
use Rattle.qrcode_contents.specs.declared.fields.errors.Field.TheVariants.{Latitude, Longitude}
use Rattle.qrcode_contents.specs.declared.fields.errors.Cause.TheVariants.{Range}
use Rattle.qrcode_contents.specs.declared.geo.Place.{Place}
use Rattle.qrcode_contents.specs.Geo.{place_checks, place_refusal, first_digit, fraction_digits, fraction_text, degrees_text, sign_text, coordinate_text, place_text, negative, read_coordinate, place_from, read_place}
use Rattle.qrcode_contents.specs.fields.Decimals.{fraction_value, read_decimal}
use Rattle.qrcode_contents.proofs.DigitReading.{AreDigits, AreDigits-append, AreDigits-one, AreDigits-decimal, HasNo-digits, read_decimal-point, read_decimal-whole}
use Rattle.qrcode_contents.proofs.EntryReading.{neither, HasNo, before-at, after-at}
use Rattle.qrcode_contents.proofs.LinkReading.{HasNo-append}
use Rattle.qrcode_contents.proofs.Passing.{all_pass, test_passes}

-- powers of ten up to the fifth fit 32 bits
pub power_bounds : (k : ℕ) → k < 6 → (0 < 10 ^ k) × (10 ^ k < 2 ^ 32)
power_bounds zero is = (lit< tt, lit< tt)
power_bounds (suc zero) is = (lit< tt, lit< tt)
power_bounds (suc (suc zero)) is = (lit< tt, lit< tt)
power_bounds (suc (suc (suc zero))) is = (lit< tt, lit< tt)
power_bounds (suc (suc (suc (suc zero)))) is = (lit< tt, lit< tt)
power_bounds (suc (suc (suc (suc (suc zero))))) is = (lit< tt, lit< tt)
power_bounds (suc (suc (suc (suc (suc (suc k)))))) is = absurd (omega arith)

power_positive : (k : ℕ) → 0 < 10 ^ k
power_positive zero = lit< tt
power_positive (suc k) = let later = power_positive k in rw (pow-suc 10 k) (omega arith)

-- n / place is a digit
pub digit_below : (n place : ℕ) → 0 < place → n < place * 10 → n / place < 10
digit_below n place some small =
    ⊎_elim
    (λ low. low)
    (λ high. let most = div-mul-le_self n place in let more = mul-le-mul_right place high in absurd (omega arith))
    (cases_lt (n / place) 10)

-- the digit of a number that is not zero
pub some_first : (n place : ℕ) → (n ≡ 0 → ⊥) → first_digit n place ≡ (48 + n / place) ∷ []
some_first n place other = let is : (n == 0) ≡ false = grind (arith, nat_tests) in rw is refl

-- one more digit of a fraction
pub fraction_step : (i rest place later : ℕ) (text more : List ℕ) → i < 6 → place ≡ 10 ^ (5 - i) → later ≡ rest % place → more ≡ text ++ first_digit rest place → more ++ fraction_digits (6 - (i + 1)) later ≡ text ++ fraction_digits (6 - i) rest
fraction_step i rest place later text more inside is left pushed =
    let now : 6 - i ≡ suc (5 - i) = omega arith in
    let next : 6 - (i + 1) ≡ 5 - i = omega arith in
    rw (now, next, pushed, left, is) (append_assoc text (first_digit rest (10 ^ (5 - i))) (fraction_digits (5 - i) (rest % 10 ^ (5 - i))))

-- the remainder after a digit is small enough for the next one
pub below_step : (i rest place later : ℕ) → i < 6 → place ≡ 10 ^ (5 - i) → later ≡ rest % place → later < 10 ^ (6 - (i + 1))
below_step i rest place later inside is left =
    let next : 6 - (i + 1) ≡ 5 - i = omega arith in
    let some = (power_bounds (5 - i) (omega arith)).0 in
    rw (next, left, is) (omega arith)

-- zero has no digits
digits_zero : (k : ℕ) → fraction_digits k 0 ≡ []
digits_zero zero = refl
digits_zero (suc k) = let p = power_positive k in let none : 0 % 10 ^ k ≡ 0 = omega arith in rw none (digits_zero k)

zero_from : (n : ℕ) → (n == 0) ≡ true → n ≡ 0
zero_from n is = grind (arith, nat_tests)

-- a number that is not zero has a first digit
some_digit : (k n : ℕ) → (n == 0) ≡ false → fraction_digits (suc k) n ≡ (48 + n / 10 ^ k) ∷ fraction_digits k (n % 10 ^ k)
some_digit k n is = rw is refl

value_by : (k n : ℕ) (none : Bool) → (n == 0) ≡ none → fraction_value k (fraction_digits k (n % 10 ^ k)) ≡ n % 10 ^ k → fraction_value (suc k) (fraction_digits (suc k) n) ≡ n
value_by k n true is later =
    let same = zero_from n is in
    rw same (ap (fraction_value (suc k)) (digits_zero (suc k)))
value_by k n false is later =
    let p = power_positive k in
    let back : 48 + n / 10 ^ k - 48 ≡ n / 10 ^ k = omega arith in
    ap (fraction_value (suc k)) (some_digit k n is)
    ∙ ap₂ (λ x y. x * 10 ^ k + y) back later
    ∙ omega arith

-- the digits of a fraction are read back
fraction_read : (k n : ℕ) → n < 10 ^ k → fraction_value k (fraction_digits k n) ≡ n
fraction_read zero n small = omega arith
fraction_read (suc k) n small =
    let p = power_positive k in
    value_by k n (n == 0) refl (fraction_read k (n % 10 ^ k) (omega arith))

first_digit_by : (n place : ℕ) (none : Bool) → (n == 0) ≡ none → n / place < 10 → AreDigits (first_digit n place) × (length (first_digit n place) ≤ 1)
first_digit_by n place true is small = rw is (refl, omega arith)
first_digit_by n place false is small = rw is (AreDigits-one (n / place) small, omega arith)

-- the digits of a fraction are digits, at most so many
fraction_digits_are : (k n : ℕ) → n < 10 ^ k → AreDigits (fraction_digits k n) × (length (fraction_digits k n) ≤ k)
fraction_digits_are zero n small = (refl, omega arith)
fraction_digits_are (suc k) n small =
    let p = power_positive k in
    let whole = pow-suc 10 k in
    let first = first_digit_by n (10 ^ k) (n == 0) refl (digit_below n (10 ^ k) p (omega (arith, whole, small))) in
    let later = fraction_digits_are k (n % 10 ^ k) (omega arith) in
    let sum = length-append (first_digit n (10 ^ k)) (fraction_digits k (n % 10 ^ k)) in
    (AreDigits-append (first_digit n (10 ^ k)) (fraction_digits k (n % 10 ^ k)) first.0 later.0, omega (arith, sum, first.1, later.1))

point_is_not : (c : ℕ) → c < 46 → (46 == c) ≡ false
point_is_not c low = grind (arith, nat_tests)

some_fraction : (m : ℕ) → (m == 0) ≡ false → fraction_text m ≡ 46 ∷ fraction_digits 6 m
some_fraction m other = rw other refl

HasNo-fraction : (c n : ℕ) (none : Bool) → c < 46 → n < 10 ^ 6 → (n == 0) ≡ none → HasNo c (fraction_text n)
HasNo-fraction c n true low small is = rw is refl
HasNo-fraction c n false low small is =
    subst (HasNo c) (sym (some_fraction n is)) (ap₂ (λ x y. x || y) (point_is_not c low) (HasNo-digits c (fraction_digits 6 n) (omega arith) (fraction_digits_are 6 n small).0))

-- degrees have neither a comma nor a sign
HasNo-degrees : (c n : ℕ) → c < 46 → n < 2 ^ 64 → HasNo c (degrees_text n)
HasNo-degrees c n low fits =
    HasNo-append c (decimal (n / 1000000)) (fraction_text (n % 1000000))
    (HasNo-digits c (decimal (n / 1000000)) (omega arith) (AreDigits-decimal (n / 1000000) (omega arith)))
    (HasNo-fraction c (n % 1000000) (n % 1000000 == 0) low (omega arith) refl)

degrees_by : (n : ℕ) (none : Bool) → (n % 1000000 == 0) ≡ none → n < 2 ^ 64 → read_decimal 6 (degrees_text n) ≡ Some n
degrees_by n true is fits =
    let exact = zero_from (n % 1000000) is in
    rw (is, append-nil (decimal (n / 1000000))) (read_decimal-whole 6 (n / 1000000) (omega arith) ∙ ap Some (omega arith))
degrees_by n false is fits =
    let are = fraction_digits_are 6 (n % 1000000) (omega arith) in
    ap (λ t. read_decimal 6 (decimal (n / 1000000) ++ t)) (some_fraction (n % 1000000) is)
    ∙ read_decimal-point 6 (n / 1000000) (fraction_digits 6 (n % 1000000)) (omega arith) are.0 are.1
    ∙ ap (λ x. Some (n / 1000000 * 1000000 + x)) (fraction_read 6 (n % 1000000) (omega arith))
    ∙ ap Some (omega arith)

no_sign_by : (b : ℕ) (text : List ℕ) (minus : Bool) → (b == 45) ≡ minus → minus ≡ false → read_coordinate (b ∷ text) ≡ option_map (λ n. pos n) (read_decimal 6 (b ∷ text))
unfolding read_coordinate
no_sign_by b text true is other = cc
no_sign_by b text false is other = rw is refl

no_sign : (text : List ℕ) → HasNo 45 text → read_coordinate text ≡ option_map (λ n. pos n) (read_decimal 6 text)
unfolding read_coordinate read_decimal
no_sign [] is = refl
no_sign (b ∷ text) is =
    let parts = neither (b == 45) (list_any (λ x. x == 45) text) is in no_sign_by b text (b == 45) refl parts.0

sign_none : (n : ℕ) → sign_text (pos n) ≡ []
sign_none n = let not_below : is_negative (pos n) ≡ false = grind (arith, nat_tests) in rw not_below refl

-- degrees with their sign are read back
coordinate_read : (z : ℤ) → unsigned_abs z < 2 ^ 64 → read_coordinate (coordinate_text z) ≡ Some z
unfolding coordinate_text read_coordinate
coordinate_read (pos n) fits =
    ap (λ xs. read_coordinate (xs ++ degrees_text n)) (sign_none n)
    ∙ no_sign (degrees_text n) (HasNo-degrees 45 n (lit< tt) fits)
    ∙ ap (option_map (λ m. pos m)) (degrees_by n (n % 1000000 == 0) refl fits)
coordinate_read (negsuc n) fits = ap (option_map negative) (degrees_by (suc n) (suc n % 1000000 == 0) refl fits)

HasNo-coordinate : (z : ℤ) → unsigned_abs z < 2 ^ 64 → HasNo 44 (coordinate_text z)
unfolding coordinate_text
HasNo-coordinate (pos n) fits =
    HasNo-append 44 (sign_text (pos n)) (degrees_text n) (ap (list_any (λ b. b == 44)) (sign_none n)) (HasNo-degrees 44 n (lit< tt) fits)
HasNo-coordinate (negsuc n) fits = HasNo-degrees 44 (suc n) (lit< tt) fits

below_word : (most n : ℕ) → most < 2 ^ 63 → nat_lt most n ≡ false → n < 2 ^ 64
below_word most n small is = grind (arith, nat_tests)

-- reading the text gives back the fields
pub place_read : (p : Place) → place_refusal p ≡ None → read_place (place_text p) ≡ Some p
unfolding place_text read_place
place_read p is =
    let none = all_pass (place_checks p) is in
    let north = below_word 90000000 (unsigned_abs p.latitude) (lit< tt) (test_passes (nat_lt 90000000 (unsigned_abs p.latitude)) Latitude Range none.0) in
    let east = below_word 180000000 (unsigned_abs p.longitude) (lit< tt) (test_passes (nat_lt 180000000 (unsigned_abs p.longitude)) Longitude Range none.1.0) in
    let comma = HasNo-coordinate p.latitude north in
    ap₂ place_from (before-at 44 (coordinate_text p.latitude) (coordinate_text p.longitude) comma) (after-at 44 (coordinate_text p.latitude) (coordinate_text p.longitude) comma)
    ∙ rw (coordinate_read p.latitude north, coordinate_read p.longitude east) refl
