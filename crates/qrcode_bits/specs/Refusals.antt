-- Limits of data and bits, the errors of pushes, and how far a push of several segments gets.
use Rattle.std.specs.Prelude.{◌≡◌, ℕ, ◌+◌, ◌^◌, ◌<◌, nat_le, nat_lt, ◌&&◌, ◌++◌, not, Bool, true, false, List, [], ◌∷◌, length, take, slice_get, IfSome, Option, Some, None, if◌then◌else◌}
use Rattle.std.specs.Option.{option_or}
use Rattle.qrcode_types.specs.Bits.{number_bits}
use Rattle.qrcode_types.specs.Characters.{can_write, character_count}
use Rattle.qrcode_types.specs.Versions.{has_level, capacity}
use Rattle.qrcode_types.specs.Modes.{has_mode, indicator, mode_bits_count, length_bits_count}
use Rattle.qrcode_types.specs.declared.types.Version.{Version}
use Rattle.qrcode_types.specs.declared.types.Version.TheVariants.{Normal, Micro}
use Rattle.qrcode_types.specs.declared.types.EcLevel.{EcLevel}
use Rattle.qrcode_types.specs.declared.types.Mode.{Mode}
use Rattle.qrcode_types.specs.declared.types.Mode.TheVariants.{Numeric, Alphanumeric, Byte, Kanji}
use Rattle.qrcode_types.specs.declared.types.QrError.{QrError}
use Rattle.qrcode_types.specs.declared.types.QrError.TheVariants.{DataTooLong, InvalidVersion, UnsupportedCharacterSet, InvalidEciDesignator, InvalidCharacter, OutOfMemory}
use Rattle.qrcode_bits.specs.Segments.{cost_of}
use Rattle.qrcode_bits.specs.Written.{Piece, written, eci_bits}
use Rattle.qrcode_bits.specs.declared.bits.ExtendedMode.{ExtendedMode}
use Rattle.qrcode_bits.specs.declared.bits.ExtendedMode.TheVariants.{Eci, Data, Fnc1First, Fnc1Second, StructuredAppend}

abbrev pub data_limit : ℕ  -- the largest number of bytes of data
data_limit = 1048576

abbrev pub bit_limit : ℕ  -- the largest number of bits in a list
bit_limit = 16777216

-- a push in this mode rejects bytes that the mode cannot write; Alphanumeric writes them like `0`, and Byte writes all
abbrev pub is_checked : Mode → Bool
is_checked Numeric = true
is_checked Kanji = true
is_checked Alphanumeric = false
is_checked Byte = false

-- The error of appending `count` characters to `used` bits, whatever they are. If there is none, memory may still run out.
abbrev pub count_refusal : Version → ℕ → Mode → ℕ → Option QrError
count_refusal v used m count =
    if not (has_mode v m) then Some UnsupportedCharacterSet else
    (if not (nat_lt count (2 ^ length_bits_count m v) && nat_le (used + cost_of v m count) bit_limit) then Some DataTooLong else None)

-- The error of appending a piece to `used` bits, in this order: the version lacks the mode; the count does not fit the length
-- field, or the list would be too long; the mode cannot write a byte.
abbrev pub piece_refusal : Version → ℕ → Piece → Option QrError
piece_refusal v used p =
    option_or (count_refusal v used p.mode (character_count p.mode (length p.chunk))) (if is_checked p.mode && not (can_write p.mode p.chunk) then Some InvalidCharacter else None)

-- the first error of appending pieces one after the other
abbrev pub pieces_refusal : Version → ℕ → List Piece → Option QrError
pieces_refusal v used [] = None
pieces_refusal v used (p ∷ pieces) = option_or (piece_refusal v used p) (pieces_refusal v (used + cost_of v p.mode (character_count p.mode (length p.chunk))) pieces)

-- the bits of a mode indicator; none if the version lacks it
abbrev pub indicator_bits : Version → ExtendedMode → Option (List Bool)
indicator_bits v (Data m) = if has_mode v m then Some (number_bits (mode_bits_count v) (indicator v m)) else None
indicator_bits (Normal v) Eci = Some (number_bits 4 7)
indicator_bits (Normal v) Fnc1First = Some (number_bits 4 5)
indicator_bits (Normal v) Fnc1Second = Some (number_bits 4 9)
indicator_bits (Normal v) StructuredAppend = Some (number_bits 4 3)
indicator_bits (Micro v) Eci = None
indicator_bits (Micro v) Fnc1First = None
indicator_bits (Micro v) Fnc1Second = None
indicator_bits (Micro v) StructuredAppend = None

-- the error of appending bits, which are none if the version lacks their mode indicator
abbrev pub append_refusal : ℕ → Option (List Bool) → Option QrError
append_refusal used None = Some UnsupportedCharacterSet
append_refusal used (Some bits) = if nat_le (used + length bits) bit_limit then None else Some DataTooLong

-- the error of appending an ECI designator, in this order: no such mode, designator too large, list too long
abbrev pub eci_refusal : Version → ℕ → ℕ → Option QrError
eci_refusal (Micro v) used n = Some UnsupportedCharacterSet
eci_refusal (Normal v) used n = if nat_le n 999999 then append_refusal used (Some (number_bits 4 7 ++ eci_bits n)) else Some InvalidEciDesignator

-- the error of terminating `used` bits: the version lacks the level, or holds fewer bits
abbrev pub terminator_refusal : Version → EcLevel → ℕ → Option QrError
terminator_refusal v l used = if not (has_level v l) then Some InvalidVersion else (if nat_le used (capacity v l) then None else Some DataTooLong)

-- a piece fails with its own cause if it has one, and otherwise because memory ran out
abbrev pub IsCause : Option QrError → QrError → Type 0
IsCause (Some cause) e = e ≡ cause
IsCause None e = e ≡ OutOfMemory

-- one piece fails, and those before it are written
pub record StopsAt (v : Version) (old : List Bool) (pieces : List Piece) (e : QrError) (new : List Bool) : Type 0 where
  pub place : ℕ
  pub inside : place < length pieces
  pub before : pieces_refusal v (length old) (take place pieces) ≡ None
  pub written : new ≡ old ++ written v (take place pieces)
  pub cause : IfSome (slice_get pieces place) (λ p. IsCause (piece_refusal v (length new) p) e)

-- the last piece fails, and those before it are written
pub record StopsAtLast (v : Version) (old : List Bool) (pieces : List Piece) (e : QrError) (new : List Bool) : Type 0 where
  pub stops : StopsAt v old pieces e new
  pub last : stops.place + 1 ≡ length pieces
