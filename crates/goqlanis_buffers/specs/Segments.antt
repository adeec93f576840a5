-- Segments whose modes C chooses, and headers: their bits and errors.
use Rattle.std.specs.Prelude.{◌≡◌, ◌⊎◌, ℕ, pos, ◌==◌, ◌<◌, ◌≤◌, nat_lt, not, false, IsTrue, Bool, List, [], ◌∷◌, ◌++◌, length, take, flat_map, slice_get, Option, Some, None, unwrap_or, if◌then◌else◌}
use Rattle.std.specs.List.{AllByRecursion}
use Rattle.std.specs.Option.{option_map}
use Rattle.qrcode_types.specs.Bits.{number_bits}
use Rattle.qrcode_types.specs.Characters.{can_write}
use Rattle.qrcode_types.specs.declared.types.Color.{Color}
use Rattle.qrcode_types.specs.declared.types.EcLevel.{EcLevel}
use Rattle.qrcode_types.specs.declared.types.Mode.TheVariants.{Numeric, Alphanumeric, Byte, Kanji}
use Rattle.qrcode_types.specs.declared.types.QrError.{QrError}
use Rattle.qrcode_types.specs.declared.types.QrError.TheVariants.{DataTooLong, InvalidVersion, UnsupportedCharacterSet, InvalidEciDesignator, InvalidCharacter}
use Rattle.qrcode_types.specs.declared.types.QrError.TheVariants as error
use Rattle.qrcode_types.specs.Versions.{has_level, capacity}
use Rattle.qrcode_types.specs.declared.types.Version.{Version}
use Rattle.qrcode_types.specs.declared.types.Version.TheVariants.{Normal}
use Rattle.qrcode_bits.specs.Refusals.{append_refusal, eci_refusal, indicator_bits, piece_refusal}
use Rattle.qrcode_bits.specs.Spelling.{IsReadBack, SpellsOnly}
use Rattle.qrcode_bits.specs.Written.{Piece, eci_bits, terminated, written, written_piece}
use Rattle.qrcode_bits.specs.declared.bits.ExtendedMode.TheVariants.{Fnc1First, Fnc1Second}
use Rattle.qrcode.specs.Reading.{EncodesBits}
use Rattle.goqlanis_buffers.specs.declared.answers.Refusal.{Refusal}
use Rattle.goqlanis_buffers.specs.declared.answers.Refusal.TheVariants.{LevelNotInVersion, NoMode, NoRoom, OutOfMemory, NoSuchKind, NotInMode, NoSuchNumber}
use Rattle.goqlanis_buffers.specs.declared.segments.SegmentKind.{SegmentKind}
use Rattle.goqlanis_buffers.specs.declared.segments.SegmentKind.TheVariants.{Data, CharacterSet, FirstPosition, SecondPosition}
use Rattle.goqlanis_buffers.specs.declared.segments.Segment.{Segment}

abbrev pub kind_named : ℕ → Option SegmentKind  -- the kind of a number, in this order from 0 on
kind_named n = slice_get (Data Numeric ∷ Data Alphanumeric ∷ Data Byte ∷ Data Kanji ∷ CharacterSet ∷ FirstPosition ∷ SecondPosition ∷ []) n

abbrev pub bits_in : Version → List ℕ → ℕ → SegmentKind → List Bool  -- the bits of a segment or header of a kind; none for a segment without bytes
bits_in v bytes n (Data m) = if length bytes == 0 then [] else written_piece v (record { mode = m; chunk = bytes })
bits_in v bytes n CharacterSet = number_bits 4 7 ++ eci_bits n
bits_in v bytes n FirstPosition = number_bits 4 5
bits_in v bytes n SecondPosition = number_bits 4 9 ++ number_bits 8 n

-- the error that C gets of an error of a push, or of a constructor whose version is valid
abbrev pub refusal_in : QrError → Refusal
refusal_in UnsupportedCharacterSet = NoMode
refusal_in InvalidVersion = LevelNotInVersion
refusal_in error.OutOfMemory = OutOfMemory
refusal_in DataTooLong = NoRoom
refusal_in InvalidEciDesignator = NoSuchNumber
refusal_in InvalidCharacter = NotInMode

-- the error of a segment or header of a kind after `used` bits; a segment without bytes has none
abbrev pub kind_refusal : Version → ℕ → List ℕ → ℕ → SegmentKind → Option Refusal
kind_refusal v used bytes n (Data m) =
    if length bytes == 0 then None else if not (can_write m bytes) then Some NotInMode else option_map refusal_in (piece_refusal v used (record { mode = m; chunk = bytes }))
kind_refusal v used bytes n CharacterSet = option_map refusal_in (eci_refusal v used n)
kind_refusal v used bytes n FirstPosition = option_map refusal_in (append_refusal used (indicator_bits v Fnc1First))
kind_refusal v used bytes n SecondPosition =
    if nat_lt 255 n then Some NoSuchNumber
    else option_map refusal_in (append_refusal used (option_map (λ bits. bits ++ number_bits 8 n) (indicator_bits v Fnc1Second)))

abbrev pub segment_bits : Version → Segment → List Bool  -- the bits of a segment
segment_bits v s = unwrap_or (option_map (bits_in v s.bytes.now s.number) (kind_named s.kind)) []

abbrev pub segment_refusal : Version → ℕ → Segment → Option Refusal  -- the error of a segment after `used` bits, if any
segment_refusal v used s = unwrap_or (option_map (kind_refusal v used s.bytes.now s.number) (kind_named s.kind)) (Some NoSuchKind)

abbrev pub written_segments : Version → List Segment → List Bool  -- the bits of segments, one after the other
written_segments v segments = flat_map (segment_bits v) segments

-- the segment at index i has no error after those before it
abbrev pub IsTaken : Version → List Segment → ℕ → Type 0
IsTaken v segments i = (s : Segment) → slice_get segments i ≡ Some s → segment_refusal v (length (written_segments v (take i segments))) s ≡ None

abbrev pub AreTaken : Version → List Segment → ℕ → Type 0  -- the first `count` segments have no error
AreTaken v segments count = (i : ℕ) → i < count → IsTaken v segments i

-- the first segment with an error, and its error
pub record IsFirstRefused (v : Version) (segments : List Segment) (r : Refusal) : Type 0 where
  pub place : ℕ
  pub segment : Segment
  pub at : slice_get segments place ≡ Some segment
  pub before : AreTaken v segments place
  pub refused : segment_refusal v (length (written_segments v (take place segments))) segment ≡ Some r

abbrev pub bits_of_segments : Version → EcLevel → List Segment → List Bool  -- the data bits of the symbol of segments
bits_of_segments v l segments = terminated v l (written_segments v segments)

-- the symbol of segments without errors; if they are pieces that are read back, it decodes to their bytes and no others
pub record IsSymbolOfSegments (v : Version) (l : EcLevel) (segments : List Segment) (s : List Color) : Type 0 where
  pub taken : AreTaken v segments (length segments)
  pub encodes : EncodesBits v l (bits_of_segments v l segments) s
  pub spelled : (pieces : List Piece) → AllByRecursion (IsReadBack v) pieces → written_segments v segments ≡ written v pieces
      → SpellsOnly v (bits_of_segments v l segments) (flat_map (λ p. p.chunk) pieces)

-- the version has the level, no segment has an error, and the symbol has room for their bits
pub record AreHeld (v : Version) (l : EcLevel) (segments : List Segment) : Type 0 where
  pub exists : IsTrue (has_level v l)
  pub taken : AreTaken v segments (length segments)
  pub room : length (written_segments v segments) ≤ capacity v l

-- no segment has an error, but the symbol has no room for their bits
abbrev pub HaveNoRoom : Version → EcLevel → List Segment → Type 0
HaveNoRoom v l segments = AreTaken v segments (length segments) × (capacity v l < length (written_segments v segments))

-- a version has no room for the segments: for one of them, or for all together
abbrev pub HasNoRoom : Version → EcLevel → List Segment → Type 0
HasNoRoom v l segments = IsFirstRefused v segments NoRoom ⊎ HaveNoRoom v l segments

-- why a version does not hold segments, or that memory ran out
abbrev pub IsUnheldCause : Version → EcLevel → List Segment → Refusal → Type 0
IsUnheldCause v l segments refusal =
    (refusal ≡ OutOfMemory)
    ⊎ (IsFirstRefused v segments refusal
    ⊎ (((refusal ≡ LevelNotInVersion) × (has_level v l ≡ false)) ⊎ ((refusal ≡ NoRoom) × HaveNoRoom v l segments)))

-- the smallest Normal version that holds segments
pub record IsLeastHeld (l : EcLevel) (segments : List Segment) (v : Version) : Type 0 where
  pub number : ℕ
  pub is : v ≡ Normal (pos number)
  pub held : AreHeld v l segments
  pub least : (n : ℕ) → AreHeld (Normal (pos n)) l segments → number ≤ n
