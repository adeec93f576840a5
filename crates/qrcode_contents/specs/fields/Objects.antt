-- Data objects of merchant-presented codes (EMVCo, Merchant-Presented Mode, version 1.1): a tag of two digits, the length of the value, and the
-- value. The last object is a checksum of all before it.
use Rattle.std.specs.Prelude.{◌≡◌, ℕ, zero, suc, nat_lt, nat_le, ◌+◌, ◌-◌, ◌*◌, ◌/◌, ◌%◌, ◌&&◌, List, [], ◌∷◌, ◌++◌, length, take, drop, flat_map, fold, Option, Some, None, bit_xor, codes, if◌then◌else◌, refl}
use Rattle.std.specs.Str.{bytes_eq}
use Rattle.std.specs.Option.{option_map}
use Rattle.qrcode_types.specs.Characters.{is_digit}
use Rattle.qrcode_contents.specs.Times.{pair_text}
use Rattle.qrcode_contents.specs.fields.Entries.{Entry, single, is_filled}
use Rattle.qrcode_contents.specs.fields.Links.{Parameter}
use Rattle.qrcode_contents.specs.fields.Percents.{hex_digit}

-- an object: the tag, two digits of length, and the value; empty if there is no value
abbrev pub object_text : Parameter → List ℕ
object_text object = if is_filled object.1 then object.0 ++ (pair_text (length object.1) ++ object.1) else []

unfoldable pub objects_text : List Parameter → List ℕ  -- objects, one after another
objects_text objects = flat_map object_text objects

abbrev pub pair_value : ℕ → ℕ → ℕ  -- the number of two digits
pair_value tens ones = (tens - 48) * 10 + (ones - 48)

-- the objects of a text, at most n of them: two bytes of tag, two digits of length, and a value of that many bytes; None for any other text
unfoldable pub read_at_most : ℕ → List ℕ → Option (List Entry)
read_at_most n [] = Some []
read_at_most (suc n) (a ∷ b ∷ tens ∷ ones ∷ rest) =
    if is_digit tens && is_digit ones && nat_le (pair_value tens ones) (length rest)
    then option_map (λ later. single (a ∷ b ∷ []) (take (pair_value tens ones) rest) ∷ later) (read_at_most n (drop (pair_value tens ones) rest))
    else None
read_at_most n text = None

abbrev pub read_objects : List ℕ → Option (List Entry)  -- the objects of a text, each at least four bytes long
read_objects text = read_at_most (length text) text

-- the CRC register after one more zero bit: doubled, and reduced by the polynomial x^16 + x^12 + x^5 + 1 (0x11021) if the highest of its sixteen bits was set
abbrev pub crc_bit : ℕ → ℕ
crc_bit register = if nat_lt register 0x8000 then register * 2 else bit_xor ((register - 0x8000) * 2) 0x1021

abbrev pub crc_step : ℕ → ℕ → ℕ  -- the CRC register after one more byte, the highest bit first
crc_step register byte =
    crc_bit (crc_bit (crc_bit (crc_bit (crc_bit (crc_bit (crc_bit (crc_bit (bit_xor register (byte * 256)))))))))

-- the CRC of bytes (ISO/IEC 13239); the register starts as sixteen ones
unfoldable pub crc_of : List ℕ → ℕ
crc_of bytes = fold crc_step 0xffff bytes

-- the usual check value of this CRC
check_row : crc_of (codes "123456789") ≡ 0x29b1
unfolding crc_of
check_row = refl

abbrev pub crc_text : ℕ → List ℕ  -- four hexadecimal digits
crc_text n = hex_digit (n / 4096) ∷ hex_digit (n / 256 % 16) ∷ hex_digit (n / 16 % 16) ∷ hex_digit (n % 16) ∷ []

-- a text with its checksum appended, which covers its own tag and length (6304) too
abbrev pub checked_text : List ℕ → List ℕ
checked_text text = text ++ (codes "6304" ++ crc_text (crc_of (text ++ codes "6304")))

-- the objects of a text whose last four bytes are the checksum of all before them; None for any other text
unfoldable pub read_checked : List ℕ → Option (List Entry)
read_checked text =
    let count = length text - 4 in
    if bytes_eq (drop count text) (crc_text (crc_of (take count text))) then read_objects text else None
