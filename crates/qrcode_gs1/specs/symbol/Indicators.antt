-- Indicators of applications (ISO/IEC 18004:2006, 6.4.8.2).
use Rattle.std.specs.Prelude.{ℕ, ◌+◌, ◌-◌, ◌*◌, nat_le, ◌&&◌, ◌||◌, Bool, List, [], ◌∷◌, Option, None, Some, if◌then◌else◌}
use Rattle.qrcode_types.specs.Characters.{is_digit}

abbrev pub is_letter : ℕ → Bool  -- a letter from A to Z or from a to z
is_letter b = (nat_le 65 b && nat_le b 90) || (nat_le 97 b && nat_le b 122)

-- the number of an indicator: for a letter its ASCII code plus 100, for two digits the number that they write
abbrev pub indicator_of : List ℕ → Option ℕ
indicator_of [] = None
indicator_of (b ∷ []) = if is_letter b then Some (b + 100) else None
indicator_of (a ∷ b ∷ []) = if is_digit a && is_digit b then Some (10 * (a - 48) + (b - 48)) else None
indicator_of (a ∷ b ∷ c ∷ more) = None
