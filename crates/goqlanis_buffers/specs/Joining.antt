-- The data of several symbols, read from squares.
use Rattle.std.specs.Prelude.{◌≡◌, ◌≢◌, ◌⊎◌, ◌<◌, ⊤, Result, ℕ, List, ◌∷◌, length, map, take, Some, slice_get}
use Rattle.std.specs.List.{AllZip}
use Rattle.qrcode_layout.specs.declared.masks.MaskPattern.{MaskPattern}
use Rattle.qrcode_reader.specs.Readings.{HasNoVersion, HasNoFormat, HasDamagedBlock, HoldsNoParts, IsPartsReading}
use Rattle.qrcode_reader.specs.declared.correction.WrongCodeword.{WrongCodeword}
use Rattle.qrcode_reader.specs.declared.spell.headers.Header.TheVariants.{StructuredAppend}
use Rattle.qrcode_reader.specs.declared.spell.parts.Part as piece
use Rattle.qrcode_reader.specs.declared.spell.parts.Part.TheVariants.{Front}
use Rattle.goqlanis_buffers.specs.Shades.{colors_of}
use Rattle.qrcode_append.specs.Joining.{IsJoined, IsJoinRefused}
use Rattle.qrcode_append.specs.declared.errors.JoinError.{JoinError}
use Rattle.qrcode_append.specs.declared.errors.JoinError.TheVariants as join
use Rattle.qrcode_append.specs.declared.joining.Part.{Part}
use Rattle.qrcode_types.specs.declared.types.Color.{Color}
use Rattle.qrcode_types.specs.declared.types.EcLevel.{EcLevel}
use Rattle.qrcode_types.specs.declared.types.Version.{Version}
use Rattle.goqlanis_buffers.specs.Calls.{Writes}
use Rattle.goqlanis_buffers.specs.Outputs.{IsFilled}
use Rattle.goqlanis_buffers.specs.declared.answers.Fault.{Fault}
use Rattle.goqlanis_buffers.specs.declared.answers.Fault.TheVariants.{At, Other}
use Rattle.goqlanis_buffers.specs.declared.answers.Refusal.{Refusal}
use Rattle.goqlanis_buffers.specs.declared.answers.Refusal.TheVariants as refusals
use Rattle.goqlanis_buffers.specs.declared.joining.DecodedPart.{DecodedPart}
use Rattle.goqlanis_buffers.specs.declared.joining.SquareBytes.{SquareBytes}

-- a part of data: what its header says, and its bytes
pub record Share : Type 0 where
  pub place : ℕ
  pub last : ℕ
  pub parity : ℕ
  pub bytes : List ℕ

abbrev pub share_of : Part → Share
share_of p = record { place = p.place; last = p.last; parity = p.parity; bytes = p.bytes.now }

abbrev pub found_part : DecodedPart → Share
found_part f = record { place = f.place; last = f.last; parity = f.parity; bytes = f.bytes.items }

-- the square decodes to this part and to nothing else: its first part is a structured append header
pub record IsPartOf (s : List Color) (p : Share) : Type 0 where
  pub version : Version
  pub level : EcLevel
  pub mask : MaskPattern
  pub behind : List piece.Part
  pub wrong : List WrongCodeword
  pub read : IsPartsReading s version level mask p.bytes (Front (StructuredAppend p.place p.last p.parity) ∷ behind) wrong

abbrev pub ArePartsOf : List SquareBytes → List Share → Type 0  -- squares decode to these parts, one by one
ArePartsOf squares shares = AllZip (λ s p. IsPartOf (colors_of s.modules.now) p) squares shares

-- the square decodes to headers and segments, of which the first is not a structured append header
pub record HasNoHeader (s : List Color) : Type 0 where
  pub version : Version
  pub level : EcLevel
  pub mask : MaskPattern
  pub bytes : List ℕ
  pub parts : List piece.Part
  pub wrong : List WrongCodeword
  pub read : IsPartsReading s version level mask bytes parts wrong
  pub none : (place last parity : ℕ) → slice_get parts 0 ≢ Some (Front (StructuredAppend place last parity))

abbrev pub IsNoPart : List Color → Refusal → Type 0  -- why a square is not a part
IsNoPart s refusals.NoSuchSide = HasNoVersion s
IsNoPart s refusals.NoFormat = HasNoFormat s
IsNoPart s refusals.Damaged = (block : ℕ) × HasDamagedBlock s block
IsNoPart s refusals.NotSpelled = HoldsNoParts s
IsNoPart s refusals.NotSeveral = HasNoHeader s
IsNoPart s other = ⊥

-- the square at this index is the first that is not a part
pub record IsFirstNoPart (squares : List SquareBytes) (place : ℕ) (refusal : Refusal) : Type 0 where
  pub square : SquareBytes
  pub at : slice_get squares place ≡ Some square
  pub before : List Share
  pub parts : ArePartsOf (take place squares) before
  pub wrong : IsNoPart (colors_of square.modules.now) refusal

-- the data of the parts that squares decode to
pub record IsDataOf (squares : List SquareBytes) (bytes : List ℕ) : Type 0 where
  pub parts : List Part
  pub read : ArePartsOf squares (map share_of parts)
  pub joined : IsJoined parts bytes

-- such data at the start of a buffer, and its length
pub record IsJoinedInto (squares : List SquareBytes) (old new : List ℕ) (count : ℕ) : Type 0 where
  pub bytes : List ℕ
  pub joined : IsDataOf squares bytes
  pub filled : IsFilled old new bytes
  pub counted : count ≡ length bytes

-- why squares are not decoded as parts: one is none, or memory ran out
abbrev pub HasNoPart : List SquareBytes → Fault → Type 0
HasNoPart squares (At place refusal) = IsFirstNoPart squares place refusal
HasNoPart squares (Other refusal) = refusal ≡ refusals.OutOfMemory

abbrev pub join_fault : JoinError → Fault  -- the error that C gets of parts that are not all the parts of the same data, and which part is wrong
join_fault (join.Stranger part) = At part refusals.Stranger
join_fault (join.Missing part) = At part refusals.Missing
join_fault (join.Twice part) = At part refusals.Twice
join_fault join.Parity = Other refusals.Parity
join_fault join.OutOfMemory = Other refusals.OutOfMemory

-- the parts of squares are not all the parts of the same data
abbrev pub AreNotJoined : List SquareBytes → Fault → Type 0
AreNotJoined squares fault = (e : JoinError) × ((fault ≡ join_fault e) × ((parts : List Part) × (ArePartsOf squares (map share_of parts) × IsJoinRefused parts e)))

-- why squares are not joined into a buffer of `room` bytes
abbrev pub IsUnjoined : List SquareBytes → ℕ → Fault → Type 0
IsUnjoined squares room fault =
    HasNoPart squares fault ⊎ (AreNotJoined squares fault ⊎ ((fault ≡ Other refusals.SmallBuffer) × ((bytes : List ℕ) × (IsDataOf squares bytes × (room < length bytes)))))

-- writes the data of squares, and returns its length
abbrev pub WritesJoined : List SquareBytes → List ℕ → List ℕ → Result ℕ Fault → Type 0
WritesJoined squares old new result = Writes (IsJoinedInto squares old) (IsUnjoined squares (length old)) old new result
