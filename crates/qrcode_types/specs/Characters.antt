-- Which bytes each mode can write, and the numbers of characters.
use Rattle.std.specs.Prelude.{ℕ, ◌+◌, ◌-◌, ◌*◌, ◌/◌, ◌%◌, ◌==◌, nat_le, nat_lt, ◌&&◌, ◌||◌, Bool, true, false, List, [], ◌∷◌, codes, position, unwrap_or, is_some, if◌then◌else◌}
use Rattle.std.specs.List.{list_all}
use Rattle.qrcode_types.specs.declared.types.Mode.{Mode}
use Rattle.qrcode_types.specs.declared.types.Mode.TheVariants.{Numeric, Alphanumeric, Byte, Kanji}

abbrev pub is_between : ℕ → ℕ → ℕ → Bool  -- low <= b <= high
is_between low high b = nat_le low b && nat_le b high

abbrev pub is_digit : ℕ → Bool  -- the characters 0 to 9
is_digit b = is_between 48 57 b

unfoldable pub alphabet : List ℕ  -- the 45 characters of Alphanumeric mode, in the order of their numbers
alphabet = codes "0123456789ABCDEFGHIJKLMNOPQRSTUVWXYZ $%*+-./:"

unfoldable pub is_alphanumeric : ℕ → Bool  -- the alphabet has this character
is_alphanumeric b = is_some (position (λ c. c == b) alphabet)

unfoldable pub alphanumeric_number : ℕ → ℕ  -- the number of a character in the alphabet, or 0 for any other byte
alphanumeric_number b = unwrap_or (position (λ c. c == b) alphabet) 0

abbrev pub is_lead : ℕ → Bool  -- a Kanji pair can begin with this byte
is_lead b = is_between 0x81 0x9f b || is_between 0xe0 0xeb b

unfoldable pub is_kanji : ℕ → ℕ → Bool  -- Kanji mode can write this pair of bytes
is_kanji b c =
    (is_between 0x81 0x9f b || is_between 0xe0 0xea b) && (is_between 0x40 0x7e c || is_between 0x80 0xfc c)
    || b == 0xeb && (is_between 0x40 0x7e c || is_between 0x80 0xbf c)

unfoldable pub kanji_number : ℕ → ℕ → ℕ  -- the number of a Kanji pair, below 8192
kanji_number b c =
    let n = 256 * b + c - (if nat_lt (256 * b + c) 0xe040 then 0x8140 else 0xc140) in n / 256 * 0xc0 + n % 256

abbrev pub are_kanji : List ℕ → Bool  -- the bytes are Kanji pairs, one after the other
are_kanji [] = true
are_kanji (b ∷ []) = false
are_kanji (b ∷ c ∷ more) = is_kanji b c && are_kanji more

abbrev pub can_write : Mode → List ℕ → Bool  -- the mode can write the bytes
can_write Numeric bytes = list_all is_digit bytes
can_write Alphanumeric bytes = list_all is_alphanumeric bytes
can_write Byte bytes = list_all (λ b. nat_lt b 256) bytes
can_write Kanji bytes = are_kanji bytes

abbrev pub bytes_each : Mode → ℕ  -- how many bytes a character takes; in Kanji mode a character is a pair of bytes
bytes_each Numeric = 1
bytes_each Alphanumeric = 1
bytes_each Byte = 1
bytes_each Kanji = 2

abbrev pub character_count : Mode → ℕ → ℕ  -- how many characters that many bytes are; in Kanji mode a character is a pair of bytes
character_count Kanji n = n / 2
character_count m n = n
