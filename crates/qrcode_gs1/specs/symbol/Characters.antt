-- The characters that are written for bytes after FNC1 (ISO/IEC 18004:2006, 6.4.8.1): in Alphanumeric mode a percent
-- sign is the separator, byte 29, and two are one percent sign; the other modes write bytes as they are.
use Rattle.std.specs.Prelude.{ℕ, ◌==◌, nat_lt, ◌&&◌, ◌||◌, not, Bool, true, false, List, [], ◌∷◌, ◌++◌, map, flat_map, slice_range, if◌then◌else◌}
use Rattle.qrcode_types.specs.Bits.{number_bits}
use Rattle.qrcode_types.specs.Characters.{is_digit, is_alphanumeric}
use Rattle.qrcode_types.specs.declared.types.Mode.{Mode}
use Rattle.qrcode_types.specs.declared.types.Mode.TheVariants.{Numeric, Alphanumeric, Byte, Kanji}
use Rattle.qrcode_bits.specs.Tokens.{first_byte}
use Rattle.qrcode_bits.specs.Written.{Piece}
use Rattle.qrcode_bits.specs.declared.optimize.Segment.{Segment}
use Rattle.qrcode_gs1.specs.declared.symbol.Fnc1.{Fnc1}
use Rattle.qrcode_gs1.specs.declared.symbol.Fnc1.TheVariants.{First, Second}

-- the mode indicator of FNC1, and in second position the application's indicator
abbrev pub mark : Fnc1 → List Bool
mark First = number_bits 4 5
mark (Second application) = number_bits 4 9 ++ number_bits 8 application

abbrev pub undoubled : List ℕ → List ℕ  -- what a reader makes of alphanumeric characters
undoubled [] = []
undoubled (b ∷ []) = (if b == 37 then 29 else b) ∷ []
undoubled (b ∷ c ∷ rest) =
    if b == 37 then (if c == 37 then 37 ∷ undoubled rest else 29 ∷ undoubled (c ∷ rest)) else b ∷ undoubled (c ∷ rest)

abbrev pub shown_in : Mode → List ℕ → List ℕ  -- what a reader makes of the characters of a segment
shown_in Numeric chunk = chunk
shown_in Alphanumeric chunk = undoubled chunk
shown_in Byte chunk = chunk
shown_in Kanji chunk = chunk

abbrev pub shown : Piece → List ℕ
shown p = shown_in p.mode p.chunk

abbrev pub characters_for : Mode → ℕ → List ℕ  -- the characters that a segment writes for a byte
characters_for Numeric b = b ∷ []
characters_for Alphanumeric b = if b == 29 then 37 ∷ [] else (if b == 37 then 37 ∷ 37 ∷ [] else b ∷ [])
characters_for Byte b = b ∷ []
characters_for Kanji b = b ∷ []

abbrev pub written_characters : Mode → List ℕ → List ℕ  -- the characters that a segment writes for bytes
written_characters m bytes = flat_map (characters_for m) bytes

abbrev pub marked_pieces : List ℕ → List Segment → List Piece  -- the pieces that segments write
marked_pieces bytes segments = map (λ s. record { mode = s.mode; chunk = written_characters s.mode (slice_range bytes s.begin s.end) }) segments

-- the mode can write the characters for the byte; Kanji is not used
abbrev pub has_characters : Mode → ℕ → Bool
has_characters Numeric b = is_digit b
has_characters Alphanumeric b = (b == 29) || is_alphanumeric b
has_characters Byte b = nat_lt b 256
has_characters Kanji b = false

-- A segment must end between these two bytes: of two percent signs for two separators a reader makes one percent sign,
-- and of three, for a separator and a percent sign, a percent sign and a separator.
abbrev pub must_end : Mode → ℕ → ℕ → Bool
must_end Numeric b follows = false
must_end Alphanumeric b follows = (b == 29) && ((follows == 29) || (follows == 37))
must_end Byte b follows = false
must_end Kanji b follows = false

-- a segment in this mode can write the bytes so that a reader gets them back
abbrev pub can_stand : Mode → List ℕ → Bool
can_stand m [] = true
can_stand m (b ∷ bytes) = has_characters m b && (not (must_end m b (first_byte bytes)) && can_stand m bytes)
