-- Appending digits to a number, and the places of digits after the point.
use Rattle.std.proofs.Common.{◌≡◌, ◌≢◌, ℕ, ◌+◌, ◌-◌, ◌*◌, ◌^◌, ◌<◌, ◌≤◌, ◌==◌, ◌&&◌, Bool, true, false, List, [], ◌∷◌, ◌++◌, length, take, get_or, replicate, Option, Some, None, if◌then◌else◌, refl, ap, ap₂, ◌∙◌, sym, arith, append_assoc}
use Rattle.std.specs.Prelude.{min, nat_le}
use Rattle.std.specs.Char.{digit_value}
use Rattle.std.specs.List.{list_all}
use Rattle.std.specs.Str.Parse.{digits_value}
use Rattle.std.proofs.lemmas.Bool.Decides.{nat_tests}
use Rattle.std.proofs.lemmas.Bool.{false_from_ne_true}
use Rattle.std.proofs.lemmas.Int.Digits.{digits_value_push}
use Rattle.std.proofs.lemmas.List.{take_more}
use Rattle.std.proofs.lemmas.List.Folds.{list_all_more}
use Rattle.std.proofs.lemmas.Str.{digit_value_digit}
use Rattle.qrcode_types.specs.Characters.{is_digit}
use Rattle.qrcode_payloads.specs.Numbers.{at_most_u64, is_number, placed_value, has_minus}

-- the value of a digit
value_of_digit : (digit : ℕ) → digit ≤ 9 → digit_value (digit + 48) ≡ digit
value_of_digit digit small = omega (arith, digit_value_digit (digit + 48) (omega (arith, small), omega (arith, small)))

-- ten times a number and a digit, each step capped at the largest of 64 bits
tenfold : (v number digit product sum : ℕ) → product ≡ min (number * 10) (2 ^ 64 - 1) → sum ≡ min (product + digit) (2 ^ 64 - 1) → number ≡ min v (2 ^ 64 - 1) → sum ≡ min (v * 10 + digit) (2 ^ 64 - 1)
tenfold v number digit product sum times plus is = omega (arith, times, plus, is)

-- a digit is appended to a number
pub digit_behind : (before : List ℕ) (number digit product sum : ℕ) → product ≡ min (number * 10) (2 ^ 64 - 1) → sum ≡ min (product + digit) (2 ^ 64 - 1) → number ≡ at_most_u64 (digits_value 10 before) → digit ≤ 9 → sum ≡ at_most_u64 (digits_value 10 (before ++ (digit + 48) ∷ []))
digit_behind before number digit product sum times plus is small =
    tenfold (digits_value 10 before) number digit product sum times plus is
    ∙ ap (λ d. at_most_u64 (digits_value 10 before * 10 + d)) (sym (value_of_digit digit small))
    ∙ ap at_most_u64 (sym (digits_value_push 10 before (digit + 48)))

-- Some comes from a test that holds
pub taken : (test : Bool) (r : Option ℕ) (x y : ℕ) → r ≡ (if test then Some x else None) → r ≡ Some y → (test ≡ true) × (y ≡ x)
taken true r x y is some = (refl, cc)
taken false r x y is some = cc

-- None comes from a test that fails
pub not_taken : (test : Bool) (r : Option ℕ) (x : ℕ) → r ≡ (if test then Some x else None) → r ≡ None → test ≡ false
not_taken test r x h k = grind (arith, nat_tests)

-- digits and one more digit are digits
pub digits_more : (digits : List ℕ) (i : ℕ) → i < length digits → list_all is_digit (take i digits) ≡ true → is_digit (get_or digits i 0) ≡ true → list_all is_digit (take (i + 1) digits) ≡ true
digits_more digits i inside before here = list_all_more is_digit digits i 0 inside ∙ ap₂ (λ a b. a && b) before here

-- the digits so far and the next one are the digits so far of the next step
pub digits_joined : (before digits : List ℕ) (i digit : ℕ) → i < length digits → is_digit (get_or digits i 0) ≡ true → digit ≡ get_or digits i 0 - 48 → (before ++ take i digits) ++ (digit + 48) ∷ [] ≡ before ++ take (i + 1) digits
digits_joined before digits i digit inside is value =
    let same : digit + 48 ≡ get_or digits i 0 = grind (arith, nat_tests, is, value) in
    append_assoc before (take i digits) ((digit + 48) ∷ [])
    ∙ ap (λ b. before ++ (take i digits ++ b ∷ [])) same
    ∙ ap (λ l. before ++ l) (sym (take_more digits i 0 inside))

-- if b fails, `a && b` does
last_fails : (a b : Bool) → b ≡ false → (a && b) ≡ false
last_fails true b is = is
last_fails false b is = refl

-- a part with a character that is no digit is not of a number
pub unplaced : (places : ℕ) (whole part : List ℕ) → list_all is_digit part ≡ false → placed_value places whole part ≡ None
unplaced places whole part is =
    let test : is_number places whole part ≡ false = last_fails _ (list_all is_digit part) is in
    rw test refl

-- the digits before the point, those after it and zeros make the number
pub placed : (places : ℕ) (whole part : List ℕ) (r : ℕ) → (length whole == 0) ≡ false → length part ≤ places → list_all is_digit whole ≡ true → list_all is_digit part ≡ true
    → r ≡ at_most_u64 (digits_value 10 ((whole ++ part) ++ replicate (places - length part) 48)) → Some r ≡ placed_value places whole part
placed places whole part r some short first second is =
    let fits : nat_le (length part) places ≡ true = grind (arith, nat_tests, short) in
    let test : is_number places whole part ≡ true = rw (some, fits, first, second) refl in
    rw test (ap Some (is ∙ ap (λ ds. at_most_u64 (digits_value 10 ds)) (append_assoc whole part (replicate (places - length part) 48))))

-- a text that does not start with a minus sign
pub no_minus : (text : List ℕ) → ((rest : List ℕ) → text ≢ 45 ∷ rest) → has_minus text ≡ false
no_minus [] other = refl
no_minus (b ∷ rest) other = false_from_ne_true (b == 45) (λ is. other rest (ap (λ x. x ∷ rest) (let same : b ≡ 45 = grind (arith, nat_tests, is) in same)))
