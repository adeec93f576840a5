-- Digits, three in ten bits.
use Rattle.std.proofs.Common.{◌≡◌, ◌-◌, ◌≤◌, ℕ, true, List, [], ◌∷◌, length, take, drop, ap, ◌∙◌, arith}
use Rattle.std.specs.List.{list_all}
use Rattle.std.proofs.lemmas.Bool.{and_parts}
use Rattle.std.proofs.lemmas.List.{take_all}
use Rattle.qrcode_types.specs.Characters.{is_digit}

-- what follows the first three digits are digits
pub digits_behind : (digits : List ℕ) → 3 ≤ length digits → list_all is_digit digits ≡ true → list_all is_digit (take (length digits - 3) (drop 3 digits)) ≡ true
digits_behind [] some all = absurd (omega arith)
digits_behind (a ∷ []) some all = absurd (omega arith)
digits_behind (a ∷ b ∷ []) some all = absurd (omega arith)
digits_behind (a ∷ b ∷ c ∷ more) some all =
    ap (list_all is_digit) (take_all (length (a ∷ b ∷ c ∷ more) - 3) more (omega arith)) ∙ (and_parts (is_digit c) _ (and_parts (is_digit b) _ (and_parts (is_digit a) _ all).1).1).1
