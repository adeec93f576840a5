-- The characters of Shift JIS, whose codes are one byte or two.
use Rattle.std.specs.Prelude.{ℕ, ◌+◌, ◌-◌, ◌==◌, ◌||◌, nat_lt, List, [], ◌∷◌, Option, Some, None, slice_index, slice_index_or, if◌then◌else◌}
use Rattle.qrcode_types.specs.Characters.{is_between, is_lead}
use Rattle.qrcode_charsets.specs.Pairs.{low_pairs, high_pairs}

-- The character of a byte that is a code of its own: that of ASCII, or a half-width katakana. Readers do not agree on 0x5C
-- (backslash or yen sign) and 0x7E (tilde or overline).
abbrev pub single_character : ℕ → Option ℕ
single_character b =
    if nat_lt b 128 then (if b == 0x5C || b == 0x7E then None else Some b) else
    (if is_between 0xA1 0xDF b then Some (b + 0xFEC0) else None)

unfoldable pub pair_row : ℕ → List ℕ  -- the row of a first byte in the table
pair_row b = if nat_lt b 0xE0 then slice_index_or low_pairs (b - 0x81) [] else slice_index_or high_pairs (b - 0xE0) []

abbrev pub pair_cell : ℕ → ℕ → ℕ  -- the cell of two bytes
pair_cell b c = slice_index (pair_row b) (c - 0x40)

-- the character of two bytes that are one code, if they are
abbrev pub pair_character : ℕ → ℕ → Option ℕ
pair_character b c = if nat_lt c 0x40 || pair_cell b c == 0 then None else Some (pair_cell b c)

-- the characters of bytes, and `None` for bytes that are no code
abbrev pub shift_jis_characters : List ℕ → List (Option ℕ)
shift_jis_characters [] = []
shift_jis_characters (b ∷ []) = single_character b ∷ []
shift_jis_characters (b ∷ c ∷ bytes) = if is_lead b then pair_character b c ∷ shift_jis_characters bytes else single_character b ∷ shift_jis_characters (c ∷ bytes)

-- Bytes in which segments are found in place of others: each code of two bytes is 0x81 0xFC. 0xFC is no digit or letter and begins no code
-- of two bytes, so the shortest segments of these bytes do not divide it.
abbrev pub stand_in : List ℕ → List ℕ
stand_in [] = []
stand_in (b ∷ []) = b ∷ []
stand_in (b ∷ c ∷ bytes) = if is_lead b then 0x81 ∷ 0xFC ∷ stand_in bytes else b ∷ stand_in (c ∷ bytes)
