-- Symbols of segments that the user chose.
use Rattle.std.specs.Prelude.{◌≡◌, ◌≤◌, ◌⊎◌, ℕ, ◌+◌, ◌==◌, pos, not, false, Bool, List, [], ◌∷◌, ◌++◌, length, flat_map, Option, Some, None, if◌then◌else◌}
use Rattle.std.specs.List.{AllByRecursion}
use Rattle.std.specs.Option.{option_or}
use Rattle.qrcode_types.specs.Bits.{number_bits}
use Rattle.qrcode_types.specs.Characters.{can_write}
use Rattle.qrcode_types.specs.Versions.{is_valid}
use Rattle.qrcode_types.specs.declared.types.EcLevel.{EcLevel}
use Rattle.qrcode_types.specs.declared.types.QrError.{QrError}
use Rattle.qrcode_types.specs.declared.types.QrError.TheVariants.{InvalidVersion, InvalidCharacter, OutOfMemory}
use Rattle.qrcode_types.specs.declared.types.Version.{Version}
use Rattle.qrcode_types.specs.declared.types.Version.TheVariants.{Normal}
use Rattle.qrcode_bits.specs.Choice.{IfCause}
use Rattle.qrcode_bits.specs.Manners.{rank}
use Rattle.qrcode_bits.specs.Refusals.{piece_refusal, eci_refusal, terminator_refusal}
use Rattle.qrcode_bits.specs.Spelling.{IsReadBack, SpellsOnly}
use Rattle.qrcode_bits.specs.Written.{Piece, written, written_piece, eci_bits, terminated}
use Rattle.qrcode.specs.Code.{Code}
use Rattle.qrcode.specs.Reading.{EncodesBits}
use Rattle.goqlanis_request.specs.declared.request.Choice.{Choice}
use Rattle.goqlanis_request.specs.declared.request.Choice.TheVariants.{From, Boosted, At}
use Rattle.goqlanis_request.specs.declared.segments.Segment.{Segment}
use Rattle.goqlanis_request.specs.declared.segments.Segment.TheVariants.{Data, CharacterSet}

-- the bits of a segment or of a character set's header; none for an empty segment
abbrev pub segment_bits : Version → Segment → List Bool
segment_bits v (Data m bytes) = if length bytes.now == 0 then [] else written_piece v (record { mode = m; chunk = bytes.now })
segment_bits v (CharacterSet n) = number_bits 4 7 ++ eci_bits n

abbrev pub written_segments : Version → List Segment → List Bool  -- the bits of all segments, in order
written_segments v segments = flat_map (segment_bits v) segments

abbrev pub is_unwritable : Segment → Bool  -- the mode of the segment cannot write its bytes
is_unwritable (Data m bytes) = not (can_write m bytes.now)
is_unwritable (CharacterSet n) = false

-- why a segment cannot be appended after `used` bits: nothing if it is empty; else its mode cannot write it, or the cause for the piece or for the
-- number of the character set
abbrev pub segment_refusal : Version → ℕ → Segment → Option QrError
segment_refusal v used (Data m bytes) =
    if length bytes.now == 0 then None else if can_write m bytes.now then piece_refusal v used (record { mode = m; chunk = bytes.now }) else Some InvalidCharacter
segment_refusal v used (CharacterSet n) = eci_refusal v used n

-- why segments cannot be appended after `used` bits: the first cause, in order
abbrev pub segments_refusal : Version → ℕ → List Segment → Option QrError
segments_refusal v used [] = None
segments_refusal v used (s ∷ segments) = option_or (segment_refusal v used s) (segments_refusal v (used + length (segment_bits v s)) segments)

-- why a version cannot hold segments at a level: the first cause among the segments; else it lacks the level, or its symbol has no room
abbrev pub refusal_in : Version → EcLevel → List Segment → Option QrError
refusal_in v l segments = option_or (segments_refusal v 0 segments) (terminator_refusal v l (length (written_segments v segments)))

abbrev pub Holds : Version → EcLevel → List Segment → Type 0  -- the version holds the segments at the level
Holds v l segments = refusal_in v l segments ≡ None

abbrev pub first_of : Choice → Version  -- the version that a choice names
first_of (From v) = v
first_of (Boosted v) = v
first_of (At v) = v

abbrev pub last_of : Choice → Version  -- the largest version that a choice allows
last_of (From v) = Normal (pos 40)
last_of (Boosted v) = Normal (pos 40)
last_of (At v) = v

abbrev pub MayTake : Choice → Version → Type 0  -- a choice allows the version: all from one on, or only one
MayTake (From from) v = rank from ≤ rank v
MayTake (Boosted from) v = rank from ≤ rank v
MayTake (At version) v = v ≡ version

-- v is the smallest version that the choice allows and that holds the segments
pub record IsLeastHeld (choice : Choice) (l : EcLevel) (segments : List Segment) (v : Version) : Type 0 where
  pub may : MayTake choice v
  pub holds : Holds v l segments
  pub least : (other : Version) → MayTake choice other → Holds other l segments → rank v ≤ rank other

-- no allowed version holds the segments; e is why the largest allowed one does not
pub record AreUnheld (choice : Choice) (l : EcLevel) (segments : List Segment) (e : QrError) : Type 0 where
  pub none : (v : Version) → MayTake choice v → ¬ Holds v l segments
  pub cause : refusal_in (last_of choice) l segments ≡ Some e

-- why segments have no symbol: memory runs out; or there is no such version as the choice names; or no allowed version holds them
abbrev pub HaveNoSymbol : Choice → EcLevel → List Segment → QrError → Type 0
HaveNoSymbol choice l segments e = (e ≡ OutOfMemory) ⊎ IfCause (is_valid (first_of choice) ≡ false) (e ≡ InvalidVersion) (AreUnheld choice l segments e)

-- code is the symbol of the segments, in order; if they are pieces that can be read back, it decodes to their bytes and to no others
pub record IsSymbolOfSegments (l : EcLevel) (segments : List Segment) (code : Code) : Type 0 where
  pub level : code.level ≡ l
  pub encodes : EncodesBits code.version l (terminated code.version l (written_segments code.version segments)) code.modules
  pub spelled : (pieces : List Piece) → AllByRecursion (IsReadBack code.version) pieces → written_segments code.version segments ≡ written code.version pieces
      → SpellsOnly code.version (terminated code.version l (written_segments code.version segments)) (flat_map (λ p. p.chunk) pieces)
