-- The results of the search for a set and a version.
use Rattle.std.specs.Prelude.{◌≡◌, ℕ, ◌<◌, ◌≤◌, ◌+◌, nat_lt, Bool, List, ◌++◌, length, IsTrue, Option, Some, None, if◌then◌else◌}
use Rattle.qrcode_types.specs.Versions.{has_level, capacity}
use Rattle.qrcode_types.specs.declared.types.Version.{Version}
use Rattle.qrcode_types.specs.declared.types.EcLevel.{EcLevel}
use Rattle.qrcode_bits.specs.Cuts.{IsCut, IsCutIn}
use Rattle.qrcode_bits.specs.Manners.{rank}
use Rattle.qrcode_bits.specs.Segments.{total_cost}
use Rattle.qrcode_bits.specs.Written.{pieces_of, written, terminated}
use Rattle.qrcode_bits.specs.declared.optimize.Segment.{Segment}
use Rattle.qrcode.specs.Code.{Code}
use Rattle.qrcode.specs.Reading.{EncodesBits}
use Rattle.qrcode_charsets.specs.Charsets.{IsWritten}
use Rattle.qrcode_charsets.specs.Fronts.{front, has_front, charset_modes}
use Rattle.qrcode_charsets.specs.ShiftJis.{stand_in}
use Rattle.qrcode_charsets.specs.Shortest.{IsAt}
use Rattle.qrcode_charsets.specs.Shown.{ArePiecesShown}
use Rattle.qrcode_charsets.specs.declared.sets.Charset.{Charset}
use Rattle.qrcode_charsets.specs.declared.sets.Charset.TheVariants.{Unmarked, Utf8, OneByte, ShiftJis}
use Rattle.qrcode_charsets.specs.declared.shortest.measuring.Measured.{Measured}

-- the bits of a text in a set: what names the set, and the segments
abbrev pub bits_of : Version → Measured → List Bool
bits_of v m = front m.set ++ written v (pieces_of m.bytes.items m.segments.items)

abbrev pub cut_bytes : Charset → List ℕ → List ℕ  -- the bytes that are divided into segments in place of those of a set
cut_bytes Unmarked bytes = bytes
cut_bytes Utf8 bytes = bytes
cut_bytes (OneByte p) bytes = bytes
cut_bytes ShiftJis bytes = stand_in bytes

-- what names the set, and some segments of the text in it, take that many bits
pub record IsLaid (c : Charset) (v : Version) (text : List ℕ) (used : ℕ) : Type 0 where
  pub front_exists : IsTrue (has_front v c)
  pub bytes : List ℕ
  pub written : IsWritten c text bytes
  pub segments : List Segment
  pub cut : IsCutIn (charset_modes c) v (cut_bytes c bytes) segments
  pub length : used ≡ length (front c) + total_cost v segments

-- segments in which a reader shows the bytes as their text, and no such segments take fewer bits
pub record IsBestCut (c : Charset) (v : Version) (bytes : List ℕ) (segments : List Segment) : Type 0 where
  pub cut : IsCut v bytes segments
  pub laid : IsCutIn (charset_modes c) v (cut_bytes c bytes) segments
  pub shown : (text : List ℕ) → IsWritten c text bytes → ArePiecesShown c (pieces_of bytes segments) text
  pub least : (others : List Segment) → IsCutIn (charset_modes c) v (cut_bytes c bytes) others → total_cost v segments ≤ total_cost v others

-- these bytes in such segments
pub record IsCutOf (c : Charset) (v : Version) (given : List ℕ) (m : Measured) : Type 0 where
  pub set : m.set ≡ c
  pub bytes : m.bytes.items ≡ given
  pub best : IsBestCut m.set v m.bytes.items m.segments.items
  pub length : m.used ≡ length (front m.set) + total_cost v m.segments.items

-- the text in a set, in segments of the fewest bits
pub record IsMeasured (v : Version) (text : List ℕ) (m : Measured) : Type 0 where
  pub front_exists : IsTrue (has_front v m.set)
  pub written : IsWritten m.set text m.bytes.items
  pub best : IsBestCut m.set v m.bytes.items m.segments.items
  pub length : m.used ≡ length (front m.set) + total_cost v m.segments.items

-- the text can be written in none of the first sets
abbrev pub NoneLaid : List Charset → Version → List ℕ → ℕ → Type 0
NoneLaid sets v text count = (place used : ℕ) (d : Charset) → place < count → IsAt sets place d → ¬ IsLaid d v text used

-- the first of the first sets in which the text takes the fewest bits
pub record IsLeastLaid (sets : List Charset) (v : Version) (text : List ℕ) (count : ℕ) (m : Measured) : Type 0 where
  pub measured : IsMeasured v text m
  pub place : ℕ
  pub before : place < count
  pub at : IsAt sets place m.set
  pub least : (other used : ℕ) (d : Charset) → other < count → IsAt sets other d → IsLaid d v text used → m.used ≤ used
  pub first : (other used : ℕ) (d : Charset) → other < place → IsAt sets other d → IsLaid d v text used → m.used < used

-- the same in a version that has room for them
pub record IsFitting (sets : List Charset) (v : Version) (l : EcLevel) (text : List ℕ) (m : Measured) : Type 0 where
  pub exists : IsTrue (has_level v l)
  pub least : IsLeastLaid sets v text (length sets) m
  pub room : m.used ≤ capacity v l

-- its symbol
pub record IsDrawnOf (v : Version) (l : EcLevel) (m : Measured) (c : Charset) (code : Code) : Type 0 where
  pub set : c ≡ m.set
  pub version : code.version ≡ v
  pub level : code.level ≡ l
  pub encodes : EncodesBits v l (terminated v l (bits_of v m)) code.modules

-- a symbol has room for the text in the set
pub record IsHeld (c : Charset) (v : Version) (l : EcLevel) (text : List ℕ) : Type 0 where
  pub exists : IsTrue (has_level v l)
  pub used : ℕ
  pub laid : IsLaid c v text used
  pub room : used ≤ capacity v l

-- a symbol has room for the text in one of the sets
pub record HasRoom (sets : List Charset) (v : Version) (l : EcLevel) (text : List ℕ) : Type 0 where
  pub place : ℕ
  pub set : Charset
  pub at : IsAt sets place set
  pub held : IsHeld set v l text

-- the smallest version from `from` on that has room for the text in one of the sets, and the text there
pub record IsChosen (sets : List Charset) (from : Version) (l : EcLevel) (text : List ℕ) (v : Version) (m : Measured) : Type 0 where
  pub fitting : IsFitting sets v l text m
  pub at_least : rank from ≤ rank v
  pub none_below : (other : Version) → rank from ≤ rank other → rank other < rank v → ¬ HasRoom sets other l text

-- the one with fewer bits of two, the second if they have as many
abbrev pub less_of : (found least : Option Measured) → Option Measured
less_of found None = found
less_of None (Some k) = Some k
less_of (Some m) (Some k) = if nat_lt m.used k.used then Some m else Some k
