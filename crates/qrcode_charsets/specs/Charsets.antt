-- The character sets in which texts are written.
use Rattle.std.specs.Prelude.{◌≡◌, ℕ, ◌-◌, ◌/◌, ◌%◌, ◌==◌, nat_lt, List, [], ◌∷◌, Option, Some, None, map, slice_index, slice_index_or, encode_utf8_all, IsTrue, if◌then◌else◌}
use Rattle.std.specs.Str.{all_scalars}
use Rattle.qrcode_charsets.specs.ShiftJis.{shift_jis_characters}
use Rattle.qrcode_charsets.specs.Table.{character_table}
use Rattle.qrcode_charsets.specs.declared.sets.Charset.{Charset}
use Rattle.qrcode_charsets.specs.declared.sets.Charset.TheVariants.{Unmarked, Utf8, OneByte, ShiftJis}
use Rattle.qrcode_charsets.specs.declared.sets.CodePage.{CodePage}
use Rattle.qrcode_charsets.specs.declared.sets.CodePage.TheVariants.{Latin1, Latin2, Latin3, Latin4, Cyrillic, Arabic, Greek, Hebrew, Latin5, Latin6, Thai, Latin7, Latin8, Latin9, Latin10, Windows1250, Windows1251, Windows1252, Windows1256}

abbrev pub page_designator : CodePage → ℕ  -- the ECI designator of a set of one byte
page_designator Latin1 = 3
page_designator Latin2 = 4
page_designator Latin3 = 5
page_designator Latin4 = 6
page_designator Cyrillic = 7
page_designator Arabic = 8
page_designator Greek = 9
page_designator Hebrew = 10
page_designator Latin5 = 11
page_designator Latin6 = 12
page_designator Thai = 13
page_designator Latin7 = 15
page_designator Latin8 = 16
page_designator Latin9 = 17
page_designator Latin10 = 18
page_designator Windows1250 = 21
page_designator Windows1251 = 22
page_designator Windows1252 = 23
page_designator Windows1256 = 24

unfoldable pub page_characters : CodePage → List ℕ  -- the characters of the bytes from 128 on, 0 for a byte that has none
page_characters p = slice_index_or character_table (page_designator p - 3) []

-- The character of a byte, if it has one: below 128 that of ASCII, from 128 on that of the table.
abbrev pub character : CodePage → ℕ → Option ℕ
character p b =
    if nat_lt b 128 then Some b else
    (if slice_index (page_characters p) (b - 128) == 0 then None else Some (slice_index (page_characters p) (b - 128)))

abbrev pub big_end : ℕ → List ℕ  -- sixteen bits as two bytes, the big end first
big_end unit = unit / 256 ∷ unit % 256 ∷ []

-- no two bytes of a set of one byte have the same character
abbrev pub CharactersAreApart : Type 0
CharactersAreApart = (p : CodePage) (a b c : ℕ) → character p a ≡ Some c → character p b ≡ Some c → a ≡ b

abbrev pub IsWritten : Charset → (text bytes : List ℕ) → Type 0  -- the bytes are the text in the set, and the text is what a reader decodes them to
IsWritten Unmarked text bytes = IsTrue (all_scalars text) × (encode_utf8_all text ≡ bytes)
IsWritten Utf8 text bytes = IsTrue (all_scalars text) × (encode_utf8_all text ≡ bytes)
IsWritten (OneByte p) text bytes = map (character p) bytes ≡ map Some text
IsWritten ShiftJis text bytes = shift_jis_characters bytes ≡ map Some text

abbrev pub Has : Charset → List ℕ → Type 0  -- the set has all characters of the text
Has c text = (bytes : List ℕ) × IsWritten c text bytes

-- in each set a text is written as one list of bytes, and these are the bytes of one text
abbrev pub TextsAreWrittenOneWay : Type 0
TextsAreWrittenOneWay = (c : Charset) (text bytes others : List ℕ) → IsWritten c text bytes → IsWritten c text others → others ≡ bytes

abbrev pub BytesAreReadOneWay : Type 0
BytesAreReadOneWay = (c : Charset) (text others bytes : List ℕ) → IsWritten c text bytes → IsWritten c others bytes → others ≡ text

-- the ECI designator of a set, if one comes before the segments
abbrev pub designator : Charset → Option ℕ
designator Unmarked = None
designator Utf8 = Some 26
designator (OneByte p) = Some (page_designator p)
designator ShiftJis = Some 20
