-- The bits that segments, terminator and padding are written as.
use Rattle.std.specs.Prelude.{ℕ, ◌+◌, ◌-◌, ◌*◌, ◌/◌, ◌%◌, nat_le, min, Bool, false, List, [], ◌∷◌, ◌++◌, length, map, flat_map, replicate, slice_range, if◌then◌else◌}
use Rattle.std.specs.List.{range_with_len}
use Rattle.qrcode_types.specs.Bits.{number_bits, bits_of}
use Rattle.qrcode_types.specs.Versions.{capacity, terminator_length, padding_byte}
use Rattle.qrcode_types.specs.Modes.{mode_bits_count, length_bits_count, indicator}
use Rattle.qrcode_types.specs.declared.types.Version.{Version}
use Rattle.qrcode_types.specs.declared.types.EcLevel.{EcLevel}
use Rattle.qrcode_types.specs.declared.types.Mode.{Mode}
use Rattle.qrcode_types.specs.declared.types.Mode.TheVariants.{Numeric, Alphanumeric, Byte, Kanji}
use Rattle.qrcode_types.specs.Characters.{alphanumeric_number, kanji_number, character_count}
use Rattle.qrcode_bits.specs.declared.optimize.Segment.{Segment}

abbrev pub numeric_bits : List ℕ → List Bool  -- three digits in ten bits, a last two in seven, a last one in four
numeric_bits [] = []
numeric_bits (a ∷ []) = number_bits 4 (a - 48)
numeric_bits (a ∷ b ∷ []) = number_bits 7 (10 * (a - 48) + (b - 48))
numeric_bits (a ∷ b ∷ c ∷ more) = number_bits 10 (100 * (a - 48) + 10 * (b - 48) + (c - 48)) ++ numeric_bits more

abbrev pub alphanumeric_bits : List ℕ → List Bool  -- two characters in eleven bits, a last one in six
alphanumeric_bits [] = []
alphanumeric_bits (a ∷ []) = number_bits 6 (alphanumeric_number a)
alphanumeric_bits (a ∷ b ∷ more) = number_bits 11 (45 * alphanumeric_number a + alphanumeric_number b) ++ alphanumeric_bits more

abbrev pub kanji_bits : List ℕ → List Bool  -- each pair in thirteen bits; a last single byte is left out
kanji_bits (a ∷ b ∷ more) = number_bits 13 (kanji_number a b) ++ kanji_bits more
kanji_bits bytes = []

abbrev pub data_bits_in : Mode → List ℕ → List Bool  -- the data bits of bytes in a mode
data_bits_in Numeric bytes = numeric_bits bytes
data_bits_in Alphanumeric bytes = alphanumeric_bits bytes
data_bits_in Byte bytes = bits_of bytes
data_bits_in Kanji bytes = kanji_bits bytes

pub record Piece : Type 0 where  -- bytes, and the mode in which they are written
  pub mode : Mode
  pub chunk : List ℕ

abbrev pub written_piece : Version → Piece → List Bool  -- mode indicator, character count and data bits
written_piece v p =
    number_bits (mode_bits_count v) (indicator v p.mode)
    ++ (number_bits (length_bits_count p.mode v) (character_count p.mode (length p.chunk)) ++ data_bits_in p.mode p.chunk)

abbrev pub written : Version → List Piece → List Bool  -- the pieces one after the other
written v pieces = flat_map (written_piece v) pieces

abbrev pub pieces_of : List ℕ → List Segment → List Piece  -- the ranges of the segments, with their modes
pieces_of bytes segments = map (λ s. record { mode = s.mode; chunk = slice_range bytes s.begin s.end }) segments

unfoldable pub padding : ℕ → List Bool  -- the bytes 0xEC and 0x11 in turn, and zeros if less than a byte is left
padding n = flat_map (λ i. number_bits 8 (padding_byte i)) (range_with_len 0 (n / 8)) ++ replicate (n % 8) false

-- what follows `used` bits: the zeros of the terminator, more zeros up to a whole byte, all within the room, and padding up to the room
unfoldable pub ending : ℕ → ℕ → ℕ → List Bool
ending terminator used room =
    let end = min (8 * ((min (used + terminator) room + 7) / 8)) room in replicate (end - used) false ++ padding (room - end)

unfoldable pub terminated : Version → EcLevel → List Bool → List Bool  -- the bits with terminator and padding, up to the capacity
terminated v l bits = bits ++ ending (terminator_length v) (length bits) (capacity v l)

unfoldable pub eci_bits : ℕ → List Bool  -- an ECI designator, below 1,000,000, in one, two or three bytes
eci_bits n = if nat_le n 127 then number_bits 8 n else (if nat_le n 16383 then number_bits 2 2 ++ number_bits 14 n else number_bits 3 6 ++ number_bits 21 n)
