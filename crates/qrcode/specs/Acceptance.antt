-- What a constructor accepts, which symbol it makes, and with which error it fails.
use Rattle.std.specs.Prelude.{◌≡◌, ◌⊎◌, ℕ, ◌<◌, ◌≤◌, pos, false, List, length, flat_map, Result, Err, IfOk, IfErr, IsOkUnless, IsTrue}
use Rattle.qrcode_types.specs.Versions.{is_valid, has_level}
use Rattle.qrcode_types.specs.declared.types.Version.{Version}
use Rattle.qrcode_types.specs.declared.types.Version.TheVariants.{Normal}
use Rattle.qrcode_types.specs.declared.types.EcLevel.{EcLevel}
use Rattle.qrcode_types.specs.declared.types.QrError.{QrError}
use Rattle.qrcode_types.specs.declared.types.QrError.TheVariants.{InvalidVersion, DataTooLong, UnsupportedCharacterSet, OutOfMemory}
use Rattle.qrcode_types.specs.declared.types.Color.{Color}
use Rattle.qrcode_bits.specs.Cuts.{IsCut, IsLeastCut}
use Rattle.qrcode_bits.specs.Choice.{Holds, IsLeastHolding, IsRefused, IfCause}
use Rattle.qrcode_bits.specs.Refusals.{data_limit}
use Rattle.qrcode_bits.specs.Spelling.{IsSpelled}
use Rattle.qrcode_bits.specs.Written.{written_piece, terminated, pieces_of}
use Rattle.qrcode_bits.specs.declared.optimize.Segment.{Segment}
use Rattle.qrcode.specs.Code.{Code}
use Rattle.qrcode.specs.Reading.{EncodesBytes}

-- the symbol of a shortest division of the data into segments; within the promised damage it decodes to the data and nothing else
pub record IsLeastSymbol (v : Version) (l : EcLevel) (bytes : List ℕ) (s : List Color) : Type 0 where
  pub segments : List Segment
  pub least : IsLeastCut v bytes segments
  pub encodes : EncodesBytes v l (terminated v l (flat_map (written_piece v) (pieces_of bytes segments))) bytes s

-- such a symbol in the smallest Normal version that holds the data
pub record IsChosenSymbol (v : Version) (l : EcLevel) (bytes : List ℕ) (s : List Color) : Type 0 where
  pub least_version : IsLeastHolding l bytes v
  pub symbol : IsLeastSymbol v l bytes s

-- the version has the level, and some list of exactly as many bits as the capacity decodes to the data
pub record CanSpell (v : Version) (l : EcLevel) (bytes : List ℕ) : Type 0 where
  pub exists : IsTrue (has_level v l)
  pub spelled : IsSpelled v l bytes

-- the smallest Normal version with such a list
pub record IsLeastSpelling (l : EcLevel) (bytes : List ℕ) (v : Version) : Type 0 where
  pub number : ℕ
  pub is : v ≡ Normal (pos number)
  pub spells : CanSpell v l bytes
  pub least : (n : ℕ) → CanSpell (Normal (pos n)) l bytes → number ≤ n

-- the result of a constructor that chooses the version: the chosen symbol, if any Normal version holds the data
pub record IsAutomatic (l : EcLevel) (bytes : List ℕ) (result : Result Code QrError) : Type 0 where
  pub level : IfOk result (λ code. code.level ≡ l)
  pub symbol : IfOk result (λ code. IsChosenSymbol code.version l bytes code.modules)
  pub accepts : (n : ℕ) → Holds (Normal (pos n)) l bytes → IsOkUnless result OutOfMemory
  pub causes : IfErr result (IsRefused l bytes)
  pub too_long : data_limit < length bytes → result ≡ Err DataTooLong
  -- without segments: the version is the smallest Normal one that can spell the data
  pub least_spelling : IfOk result (λ code. IsLeastSpelling l bytes code.version)
  -- if any can, the call succeeds, unless memory runs out
  pub accepts_spelled : (n : ℕ) → CanSpell (Normal (pos n)) l bytes → IsOkUnless result OutOfMemory
  -- if none can, it fails
  pub refuses_unspelled : ((n : ℕ) → ¬ CanSpell (Normal (pos n)) l bytes) → (result ≡ Err DataTooLong) ⊎ (result ≡ Err OutOfMemory)

-- why data is rejected at a version and level: the first of these causes that applies; after the third, memory may run out instead
abbrev pub IsRefusedAt : Version → EcLevel → List ℕ → QrError → Type 0
IsRefusedAt v l bytes e =
    IfCause (is_valid v ≡ false) (e ≡ InvalidVersion) (
    IfCause (data_limit < length bytes) (e ≡ DataTooLong) (
    IfCause ((segments : List Segment) → ¬ IsCut v bytes segments) (e ≡ UnsupportedCharacterSet) (
    (e ≡ OutOfMemory) ⊎ IfCause (has_level v l ≡ false) (e ≡ InvalidVersion) ((¬ Holds v l bytes) × (e ≡ DataTooLong)))))
