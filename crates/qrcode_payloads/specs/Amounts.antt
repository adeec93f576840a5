-- Amounts as people write them: digits, perhaps in groups of three, and perhaps a point and more digits.
use Rattle.std.specs.Prelude.{◌≡◌, ℕ, ◌%◌, ◌==◌, ◌&&◌, ◌||◌, Bool, true, false, List, [], ◌∷◌, length, take, drop, codes, if◌then◌else◌, refl}
use Rattle.std.specs.List.{after_first, before_first, list_all}
use Rattle.qrcode_types.specs.Characters.{is_digit}
use Rattle.qrcode_contents.specs.fields.Entries.{is_filled}
use Rattle.qrcode_payloads.specs.Plain.{is_byte, plain}
use Rattle.qrcode_payloads.specs.declared.plain.Cleaning.TheVariants as cleaning

abbrev pub are_groups : ℕ → List ℕ → Bool  -- groups of three digits, with the separator before each
are_groups separator [] = true
are_groups separator (a ∷ []) = false
are_groups separator (a ∷ b ∷ []) = false
are_groups separator (a ∷ b ∷ c ∷ []) = false
are_groups separator (a ∷ b ∷ c ∷ d ∷ more) = (a == separator && is_digit b && is_digit c && is_digit d) && are_groups separator more

-- one to three digits, and then such groups
abbrev pub is_grouped : ℕ → List ℕ → Bool
is_grouped separator text =
    is_filled (take (length text % 4) text) && list_all is_digit (take (length text % 4) text) && are_groups separator (drop (length text % 4) text)

-- digits, or groups of digits with spaces or apostrophes between them
abbrev pub is_whole : List ℕ → Bool
is_whole text = list_all is_digit text || is_grouped 32 text || is_grouped 39 text

abbrev pub is_amount : List ℕ → Bool  -- digits before the point, perhaps in groups, and digits after it, without groups
is_amount text = is_whole (before_first (is_byte 46) text) && list_all is_digit (after_first (is_byte 46) text)

-- an amount without the separators of its groups; any other text unchanged, so that it is no number
abbrev pub ungrouped : List ℕ → List ℕ
ungrouped text = if is_amount text then plain cleaning.Groups text else text

abbrev pub plain_amount : List ℕ → List ℕ  -- an amount as formats write it: without separators of groups, and with a decimal point
plain_amount text = ungrouped (plain cleaning.Amount text)

grouped_row : is_amount (codes "12'345.6") ≡ true
grouped_row = refl

pair_row : is_amount (codes "12 34") ≡ false
pair_row = refl

twice_row : is_amount (codes "1''234") ≡ false
twice_row = refl

mixed_row : is_amount (codes "1'234 567") ≡ false
mixed_row = refl

behind_row : is_amount (codes "1.234 5") ≡ false
behind_row = refl
