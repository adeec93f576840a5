-- The fewest bits for a text over some character sets.
use Rattle.std.specs.Prelude.{◌≡◌, ◌⊎◌, ℕ, ◌<◌, ◌≤◌, false, Bool, List, ◌++◌, length, slice_index_or, chars, Result, Err, IfErr, IsOkUnless, IsTrue}
use Rattle.std.specs.List.{AllByRecursion}
use Rattle.qrcode_types.specs.Versions.{is_valid, has_level, level_number, capacity}
use Rattle.qrcode_types.specs.declared.types.Version.{Version}
use Rattle.qrcode_types.specs.declared.types.EcLevel.{EcLevel}
use Rattle.qrcode_types.specs.declared.types.QrError.{QrError}
use Rattle.qrcode_types.specs.declared.types.QrError.TheVariants.{DataTooLong, InvalidVersion, UnsupportedCharacterSet, OutOfMemory}
use Rattle.qrcode_types.specs.declared.types.Color.{Color}
use Rattle.qrcode_bits.specs.Choice.{IfCause}
use Rattle.qrcode_bits.specs.Manners.{rank}
use Rattle.qrcode_bits.specs.Refusals.{data_limit}
use Rattle.qrcode_bits.specs.Spelling.{IsReadable}
use Rattle.qrcode_bits.specs.Written.{Piece, written, terminated}
use Rattle.qrcode.specs.Code.{Code}
use Rattle.qrcode.specs.Reading.{EncodesBits}
use Rattle.qrcode_charsets.specs.Charsets.{Has}
use Rattle.qrcode_charsets.specs.Fronts.{front, has_front}
use Rattle.qrcode_charsets.specs.Shown.{ArePiecesShown, ShowsIn, IsShownAs}
use Rattle.qrcode_charsets.specs.declared.sets.Charset.{Charset}

-- the bits are what names the set, and segments that are shown as the text; what ends them is left out
pub record IsWriting (c : Charset) (v : Version) (text : List ℕ) (bits : List Bool) : Type 0 where
  pub front_exists : IsTrue (has_front v c)
  pub pieces : List Piece
  pub readable : AllByRecursion (IsReadable v) pieces
  pub joined : bits ≡ front c ++ written v pieces
  pub shown : ArePiecesShown c pieces text

-- a set of the list, at a place
abbrev pub IsAt : List Charset → ℕ → Charset → Type 0
IsAt sets place c = (place < length sets) × (slice_index_or sets place c ≡ c)

-- the bits are such a writing in this set of the list; none of its sets has a shorter one, and the sets before it only longer ones
pub record IsShortest (sets : List Charset) (c : Charset) (v : Version) (text : List ℕ) (bits : List Bool) : Type 0 where
  pub place : ℕ
  pub at : IsAt sets place c
  pub writing : IsWriting c v text bits
  pub least : (other : ℕ) (d : Charset) (others : List Bool) → IsAt sets other d → IsWriting d v text others → length bits ≤ length others
  pub first : (other : ℕ) (d : Charset) (others : List Bool) → other < place → IsAt sets other d → IsWriting d v text others → length bits < length others

-- a symbol can show the text: some bits that fill it are shown as the text in one of the sets
pub record CanShow (sets : List Charset) (v : Version) (l : EcLevel) (text : List ℕ) : Type 0 where
  pub exists : IsTrue (has_level v l)
  pub place : ℕ
  pub set : Charset
  pub at : IsAt sets place set
  pub bits : List Bool
  pub full : length bits ≡ capacity v l
  pub shown : ShowsIn set v bits text

-- the smallest version from `from` on whose symbol can show the text
pub record IsLeastShowing (sets : List Charset) (from : Version) (l : EcLevel) (text : List ℕ) (v : Version) : Type 0 where
  pub can : CanShow sets v l text
  pub at_least : rank from ≤ rank v
  pub least : (other : Version) → rank from ≤ rank other → CanShow sets other l text → rank v ≤ rank other

-- the symbol of the shortest bits; for each square within the promised damage a reader shows exactly the text
pub record IsShortestSymbol (sets : List Charset) (c : Charset) (v : Version) (l : EcLevel) (text : List ℕ) (s : List Color) : Type 0 where
  pub bits : List Bool
  pub shortest : IsShortest sets c v text bits
  pub encodes : EncodesBits v l (terminated v l bits) s
  pub shown : IsShownAs v l text s

-- such a symbol, in the smallest version from `from` on that can show the text
pub record IsShortestFrom (sets : List Charset) (from : Version) (l : EcLevel) (text : List ℕ) (c : Charset) (code : Code) : Type 0 where
  pub level : code.level ≡ l
  pub least_version : IsLeastShowing sets from l text code.version
  pub symbol : IsShortestSymbol sets c code.version l text code.modules

-- such a symbol at the highest level, from l on, at which its version can show the text
pub record IsShortestBoosted (sets : List Charset) (from : Version) (l : EcLevel) (text : List ℕ) (c : Charset) (code : Code) : Type 0 where
  pub least_version : IsLeastShowing sets from l text code.version
  pub at_least : level_number l ≤ level_number code.level
  pub highest_level : (other : EcLevel) → level_number code.level < level_number other → ¬ CanShow sets code.version other text
  pub symbol : IsShortestSymbol sets c code.version code.level text code.modules

-- such a symbol in a given version
pub record IsShortestIn (sets : List Charset) (v : Version) (l : EcLevel) (text : List ℕ) (c : Charset) (code : Code) : Type 0 where
  pub version : code.version ≡ v
  pub level : code.level ≡ l
  pub symbol : IsShortestSymbol sets c v l text code.modules

abbrev pub NoneHas : List Charset → List ℕ → Type 0  -- each of the sets lacks a character of the text
NoneHas sets text = (place : ℕ) (c : Charset) → IsAt sets place c → ¬ Has c text

-- why there is no symbol, if there is a version `from` and the text is not too long: the first of these causes that applies, or memory ran out
abbrev pub IsTextRefused : List Charset → Version → EcLevel → List ℕ → QrError → Type 0
IsTextRefused sets from l text e =
    IfCause (NoneHas sets text) (e ≡ UnsupportedCharacterSet)
    ((e ≡ OutOfMemory) ⊎ ((e ≡ DataTooLong) × ((v : Version) → rank from ≤ rank v → ¬ CanShow sets v l text)))

-- when and with which error a call fails that needs a version, from `from` on, that can show the text of these bytes in UTF-8
pub record NeedsText {A : Type 0} (sets : List Charset) (from : Version) (l : EcLevel) (utf8 : List ℕ) (result : Result A QrError) : Type 0 where
  pub no_version : is_valid from ≡ false → result ≡ Err InvalidVersion
  pub too_long : IsTrue (is_valid from) → data_limit < length utf8 → result ≡ Err DataTooLong
  pub accepts : (v : Version) → IsTrue (is_valid from) → rank from ≤ rank v → CanShow sets v l (chars utf8) → IsOkUnless result OutOfMemory
  pub causes : IsTrue (is_valid from) → length utf8 ≤ data_limit → IfErr result (IsTextRefused sets from l (chars utf8))
