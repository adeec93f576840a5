-- Amounts are read back.
use Rattle.std.proofs.Common.{◌≡◌, ℕ, ◌+◌, ◌<◌, ◌^◌, ◌/◌, ◌%◌, [], ◌∷◌, ◌++◌, Some, length, decimal, refl, ap, ap₂, ◌∙◌, arith}
use Rattle.std.proofs.lemmas.List.{length-append}
use Rattle.std.proofs.lemmas.Fmt.{decimal_digit, length-decimal-le}
use Rattle.qrcode_contents.specs.fields.Amounts.{amount_text, read_amount}
use Rattle.qrcode_contents.proofs.DigitReading.{AreDigits-two, read_decimal-point}
use Rattle.qrcode_contents.proofs.LineReading.{HasNoFeed, HasNoFeed-append, HasNoFeed-decimal}

-- an amount is read back
pub amount_read : (n : ℕ) → n < 2 ^ 64 → read_amount (amount_text n) ≡ Some n
unfolding amount_text
amount_read n fits =
    let a = n / 10 % 10 in
    let b = n % 10 in
    let are = AreDigits-two a b [] (omega arith) (omega arith) refl in
    ap₂ (λ xs ys. read_amount (decimal (n / 100) ++ 46 ∷ (xs ++ ys))) (decimal_digit a (omega arith)) (decimal_digit b (omega arith))
    ∙ read_decimal-point 2 (n / 100) ((48 + a) ∷ (48 + b) ∷ []) (omega arith) are (omega arith)
    ∙ ap Some (omega arith)

-- an amount has no line feed
pub HasNoFeed-amount : (n : ℕ) → n < 2 ^ 64 → HasNoFeed (amount_text n)
unfolding amount_text
HasNoFeed-amount n fits =
    HasNoFeed-append (decimal (n / 100)) (46 ∷ (decimal (n / 10 % 10) ++ decimal (n % 10))) (HasNoFeed-decimal (n / 100) (omega arith))
    (HasNoFeed-append (decimal (n / 10 % 10)) (decimal (n % 10)) (HasNoFeed-decimal (n / 10 % 10) (omega arith)) (HasNoFeed-decimal (n % 10) (omega arith)))

-- an amount has fewer than 100 bytes
pub amount_short : (n : ℕ) → n < 2 ^ 64 → length (amount_text n) < 100
unfolding amount_text
amount_short n fits =
    let later = decimal (n / 10 % 10) ++ decimal (n % 10) in
    let first = length-append (decimal (n / 100)) (46 ∷ later) in
    let second = length-append (decimal (n / 10 % 10)) (decimal (n % 10)) in
    let whole = length-decimal-le 20 (n / 100) (omega arith) (omega arith) (omega arith) in
    let tenth = length-decimal-le 1 (n / 10 % 10) (omega arith) (omega arith) (omega arith) in
    let last = length-decimal-le 1 (n % 10) (omega arith) (omega arith) (omega arith) in
    omega (arith, first, second, whole, tenth, last)
