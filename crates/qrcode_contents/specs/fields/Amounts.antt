-- Amounts of money, with two digits after the point.
use Rattle.std.specs.Prelude.{ℕ, ◌/◌, ◌%◌, List, ◌∷◌, ◌++◌, Option, decimal}
use Rattle.qrcode_contents.specs.fields.Decimals.{read_decimal}

unfoldable pub amount_text : ℕ → List ℕ  -- an amount of n hundredths, e.g. 12.30 for 1230
amount_text n = decimal (n / 100) ++ (46 ∷ (decimal (n / 10 % 10) ++ decimal (n % 10)))

abbrev pub read_amount : List ℕ → Option ℕ  -- the hundredths of an amount with at most two digits after its point, or without a point; None for any other text
read_amount text = read_decimal 2 text
