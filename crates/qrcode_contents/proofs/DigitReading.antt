-- Numbers in digits are read back.
use Rattle.std.proofs.Common.{◌≡◌, ℕ, nat_le, ◌+◌, ◌%◌, ◌*◌, ◌<◌, ◌≤◌, ◌^◌, ◌==◌, ◌&&◌, List, [], ◌∷◌, ◌++◌, true, false, Some, length, decimal, refl, ap, ap₂, ◌∙◌, arith, lit<}
use Rattle.std.specs.Char.{digit_value}
use Rattle.std.specs.List.{list_all}
use Rattle.std.proofs.lemmas.Bool.Decides.{nat_tests}
use Rattle.std.proofs.lemmas.List.Folds.{list_all-append}
use Rattle.std.proofs.lemmas.Fmt.{decimal_by_steps, decimal_is_IsNumeral, decimal_nonempty}
use Rattle.std.proofs.lemmas.Str.{digit_value_digit}
use Rattle.qrcode_types.specs.Characters.{is_digit}
use Rattle.qrcode_contents.specs.fields.Decimals.{fraction_value, read_decimal}
use Rattle.qrcode_contents.specs.fields.Entries.{is_filled}
use Rattle.qrcode_contents.proofs.EntryReading.{HasNo, before-at, after-at, before-none, after-none}
use Rattle.qrcode_contents.proofs.LinkReading.{all_without}

-- only digits
abbrev pub AreDigits : List ℕ → Type 0
AreDigits bytes = list_all is_digit bytes ≡ true

pub digit_is : (n : ℕ) → n < 10 → is_digit (48 + n) ≡ true
digit_is n small = grind (arith, nat_tests)

-- the value of a digit
pub value_of_digit : (n : ℕ) → n < 10 → digit_value (48 + n) ≡ n
value_of_digit n small = let is = digit_value_digit (48 + n) (omega arith, omega arith) in omega (arith, is)

pub AreDigits-append : (xs ys : List ℕ) → AreDigits xs → AreDigits ys → AreDigits (xs ++ ys)
AreDigits-append xs ys x y = list_all-append is_digit xs ys ∙ ap₂ (λ a b. a && b) x y

pub AreDigits-one : (n : ℕ) → n < 10 → AreDigits ((48 + n) ∷ [])
AreDigits-one n small = ap (λ x. x && true) (digit_is n small)

-- two more digits in front
pub AreDigits-two : (a b : ℕ) (rest : List ℕ) → a < 10 → b < 10 → AreDigits rest → AreDigits ((48 + a) ∷ (48 + b) ∷ rest)
AreDigits-two a b rest a_small b_small are = ap₂ (λ x y. x && y) (digit_is a a_small) (ap₂ (λ x y. x && y) (digit_is b b_small) are)

-- a number is written in digits
pub AreDigits-decimal : (n : ℕ) → n < 2 ^ 64 → AreDigits (decimal n)
AreDigits-decimal n fits = decimal_by_steps (λ m ds. AreDigits ds) AreDigits-one
    (λ m ds low is. AreDigits-append ds ((48 + m % 10) ∷ []) is (AreDigits-one (m % 10) (omega arith))) n fits

digit_is_not : (c b : ℕ) → c < 48 → is_digit b ≡ true → (b == c) ≡ false
digit_is_not c b low is = grind (arith, nat_tests)

-- digits are no such characters as a point, a sign or a line break
pub HasNo-digits : (c : ℕ) (bytes : List ℕ) → c < 48 → AreDigits bytes → HasNo c bytes
HasNo-digits c bytes low are = all_without is_digit (λ b. b == c) (λ b is. digit_is_not c b low is) bytes are

pub decimal_filled : (n : ℕ) → n < 2 ^ 64 → is_filled (decimal n) ≡ true
decimal_filled n fits = let some = decimal_nonempty n fits in grind (arith, nat_tests)

-- a number with digits after its point is read back
pub read_decimal-point : (places n : ℕ) (part : List ℕ) → n < 2 ^ 64 → AreDigits part → length part ≤ places → read_decimal places (decimal n ++ 46 ∷ part) ≡ Some (n * 10 ^ places + fraction_value places part)
unfolding read_decimal
read_decimal-point places n part fits are most =
    let none = HasNo-digits 46 (decimal n) (lit< tt) (AreDigits-decimal n fits) in
    let short : nat_le (length part) places ≡ true = grind (arith, nat_tests) in
    rw (before-at 46 (decimal n) part none, after-at 46 (decimal n) part none, decimal_filled n fits, AreDigits-decimal n fits, are, short, (decimal_is_IsNumeral n fits).1) refl

-- a number without a point is read back
pub read_decimal-whole : (places n : ℕ) → n < 2 ^ 64 → read_decimal places (decimal n) ≡ Some (n * 10 ^ places + fraction_value places [])
unfolding read_decimal
read_decimal-whole places n fits =
    let none = HasNo-digits 46 (decimal n) (lit< tt) (AreDigits-decimal n fits) in
    let short : nat_le 0 places ≡ true = grind (arith, nat_tests) in
    rw (before-none 46 (decimal n) none, after-none 46 (decimal n) none, decimal_filled n fits, AreDigits-decimal n fits, short, (decimal_is_IsNumeral n fits).1) refl
