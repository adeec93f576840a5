-- The symbols of data that is divided between several.
use Rattle.std.specs.Prelude.{◌≡◌, ◌⊎◌, ℕ, ◌+◌, ◌-◌, ◌<◌, ◌≤◌, ◌==◌, false, List, ◌++◌, length, flat_map, chars, IsUtf8, IsTrue, if◌then◌else◌}
use Rattle.std.specs.List.{range_with_len}
use Rattle.qrcode_types.specs.Versions.{is_micro, has_level, capacity}
use Rattle.qrcode_types.specs.declared.types.Version.{Version}
use Rattle.qrcode_types.specs.declared.types.EcLevel.{EcLevel}
use Rattle.qrcode_types.specs.declared.types.QrError.{QrError}
use Rattle.qrcode_types.specs.declared.types.QrError.TheVariants.{InvalidVersion, DataTooLong, OutOfMemory}
use Rattle.qrcode_types.specs.declared.types.Color.{Color}
use Rattle.qrcode_symbol.specs.Symbol.{IsDamaged}
use Rattle.qrcode_bits.specs.BitList.{BitList}
use Rattle.qrcode_bits.specs.Cuts.{IsCutIn, IsLeastCutIn}
use Rattle.qrcode_bits.specs.Manners.{modes_of, is_text}
use Rattle.qrcode_bits.specs.Refusals.{data_limit}
use Rattle.qrcode_bits.specs.Segments.{total_cost}
use Rattle.qrcode_bits.specs.StructuredAppend.{parity, append_front, SpellsPart}
use Rattle.qrcode_bits.specs.Written.{written, pieces_of, terminated}
use Rattle.qrcode_bits.specs.declared.bits.manner.Manner.{Manner}
use Rattle.qrcode_bits.specs.declared.optimize.Segment.{Segment}
use Rattle.qrcode.specs.Code.{Code}
use Rattle.qrcode.specs.Reading.{EncodesBits}
use Rattle.qrcode_append.specs.Division.{part}
use Rattle.qrcode_append.specs.Reading.{EachAt, ReadsPart, ShowsPartOnly, ReadsSeveralOnly}

abbrev pub IsLeastLength : Manner → Version → List ℕ → ℕ → Type 0  -- the bits of a shortest division into segments
IsLeastLength m v bytes bits = (segments : List Segment) × (IsLeastCutIn (modes_of m) v bytes segments × (bits ≡ total_cost v segments))

abbrev pub front_length : ℕ → ℕ  -- the bits of the header, by the place of the last symbol: a single symbol has none
front_length last = if last == 0 then 0 else 20

-- some division of the part into segments fits into `room` bits after `front` bits
abbrev pub PartFits : Manner → Version → List ℕ → ℕ → ℕ → Type 0
PartFits m v bytes front room = (segments : List Segment) × (IsCutIn (modes_of m) v bytes segments × (front + total_cost v segments ≤ room))

-- `count` symbols, at most 16, hold the data in even parts
pub record HoldSeveral (m : Manner) (v : Version) (l : EcLevel) (bytes : List ℕ) (count : ℕ) : Type 0 where
  pub exists : IsTrue (has_level v l)
  pub normal : is_micro v ≡ false
  pub limit : length bytes ≤ data_limit
  pub some : 0 < count
  pub at_most : count ≤ 16
  pub room : (place : ℕ) → place < count → PartFits m v (part m bytes count place) (front_length (count - 1)) (capacity v l)

-- the list of bits of a part: its header and a shortest division into segments, terminated; it decodes to the part
pub record IsPartList (m : Manner) (v : Version) (l : EcLevel) (place last parity : ℕ) (bytes : List ℕ) (list : BitList) : Type 0 where
  pub version : list.version ≡ v
  pub segments : List Segment
  pub least : IsLeastCutIn (modes_of m) v bytes segments
  pub bits : list.bits ≡ terminated v l (append_front place last parity ++ written v (pieces_of bytes segments))
  pub full : length list.bits ≡ capacity v l
  pub spelled : SpellsPart v list.bits place last parity bytes

-- the symbol of a part: each square within the promised damage decodes to the part, and for a text a reader shows exactly the
-- part's characters
pub record IsPartSymbol (m : Manner) (v : Version) (l : EcLevel) (place last parity : ℕ) (bytes : List ℕ) (code : Code) : Type 0 where
  pub version : code.version ≡ v
  pub level : code.level ≡ l
  pub segments : List Segment
  pub least : IsLeastCutIn (modes_of m) v bytes segments
  pub encodes : EncodesBits v l (terminated v l (append_front place last parity ++ written v (pieces_of bytes segments))) code.modules
  pub read : (other : List Color) → IsDamaged v l encodes.mask code.modules other → ReadsPart other place last parity bytes
  pub shown : IsTrue (is_text m) → IsUtf8 bytes → (other : List Color) → IsDamaged v l encodes.mask code.modules other → ShowsPartOnly other place last parity (chars bytes)

-- The symbols of even parts, in order, in a version and level that hold them. The parts one after the other are the data, and
-- the parts of a text are texts. Squares that decode to these parts decode together to the data and nothing else.
pub record AreParted (m : Manner) (v : Version) (l : EcLevel) (bytes : List ℕ) (codes : List Code) : Type 0 where
  pub held : HoldSeveral m v l bytes (length codes)
  pub symbols : EachAt (λ place. IsPartSymbol m v l place (length codes - 1) (parity bytes) (part m bytes (length codes) place)) codes
  pub joined : flat_map (part m bytes (length codes)) (range_with_len 0 (length codes)) ≡ bytes
  pub read : (squares : List (List Color)) → length squares ≡ length codes
      → EachAt (λ place s. ReadsPart s place (length codes - 1) (parity bytes) (part m bytes (length codes) place)) squares → ReadsSeveralOnly squares bytes
  pub characters : IsTrue (is_text m) → IsUtf8 bytes → (place : ℕ) → place < length codes → IsUtf8 (part m bytes (length codes) place)

-- such symbols, as few as hold the data
pub record AreSeveral (m : Manner) (v : Version) (l : EcLevel) (bytes : List ℕ) (codes : List Code) : Type 0 where
  pub parted : AreParted m v l bytes codes
  pub fewest : (count : ℕ) → HoldSeveral m v l bytes count → length codes ≤ count

-- why the call fails: memory ran out; no symbol of this version and level can be one of several; or 16 of them do not hold the data
abbrev pub AreSymbolsRefused : Manner → Version → EcLevel → List ℕ → QrError → Type 0
AreSymbolsRefused m v l bytes e =
    (e ≡ OutOfMemory) ⊎ (((e ≡ InvalidVersion) × (IsTrue (has_level v l) → is_micro v ≡ false → ⊥))
    ⊎ ((e ≡ DataTooLong) × (IsTrue (has_level v l) × (is_micro v ≡ false) × ((count : ℕ) → ¬ HoldSeveral m v l bytes count))))
