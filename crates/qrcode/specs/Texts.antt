-- Which characters a reader shows for a square, and the symbols of data in a manner.
use Rattle.std.specs.Prelude.{◌≡◌, ℕ, ◌<◌, ◌≤◌, ◌++◌, Bool, List, [], length, chars, IsUtf8, Result, Err, IfOk, IfErr, IsOkUnless, IsTrue}
use Rattle.qrcode_types.specs.Versions.{is_valid, level_number}
use Rattle.qrcode_types.specs.declared.types.Version.{Version}
use Rattle.qrcode_types.specs.declared.types.EcLevel.{EcLevel}
use Rattle.qrcode_types.specs.declared.types.QrError.{QrError}
use Rattle.qrcode_types.specs.declared.types.QrError.TheVariants.{DataTooLong, OutOfMemory}
use Rattle.qrcode_types.specs.declared.types.Color.{Color}
use Rattle.qrcode_layout.specs.declared.masks.MaskPattern.{MaskPattern}
use Rattle.qrcode_symbol.specs.Symbol.{IsDamaged}
use Rattle.qrcode_symbol.specs.Reading.{ReadsBits}
use Rattle.qrcode_bits.specs.Choice.{IsRefusedIn, NeedsVersion}
use Rattle.qrcode_bits.specs.Cuts.{IsLeastCutIn}
use Rattle.qrcode_bits.specs.Manners.{is_text, modes_of, front, HoldsAs, IsLeastFrom}
use Rattle.qrcode_bits.specs.Refusals.{data_limit}
use Rattle.qrcode_bits.specs.Shown.{Shows, ShowsOnly}
use Rattle.qrcode_bits.specs.Written.{written, terminated, pieces_of}
use Rattle.qrcode_bits.specs.declared.bits.manner.Manner.{Manner}
use Rattle.qrcode_bits.specs.declared.optimize.Segment.{Segment}
use Rattle.qrcode.specs.Code.{Code}
use Rattle.qrcode.specs.Drawing.{IsMaskOf}
use Rattle.qrcode.specs.Reading.{ReadsOnly, EncodesBits}

pub record ShowsText (s : List Color) (text : List ℕ) : Type 0 where  -- a reader shows text for the square s
  pub version : Version
  pub level : EcLevel
  pub bits : List Bool
  pub read : ReadsBits s version level bits
  pub shown : Shows version bits text

pub record ShowsTextOnly (s : List Color) (text : List ℕ) : Type 0 where  -- it shows text, and nothing else
  pub found : ShowsText s text
  pub only : (others : List ℕ) → ShowsText s others → others ≡ text

-- for each square within the promised damage a reader shows these characters, and no others
pub record IsShownAs (v : Version) (l : EcLevel) (text : List ℕ) (s : List Color) : Type 0 where
  pub mask : MaskPattern
  pub is_mask : IsMaskOf v l mask s
  pub shown : (other : List Color) → IsDamaged v l mask s other → ShowsTextOnly other text

abbrev pub TextsAreShown : Type 0  -- if a reader shows bits as a text, it shows their symbol so, even damaged
TextsAreShown = (v : Version) (l : EcLevel) (bits : List Bool) (text : List ℕ) (s : List Color) → EncodesBits v l bits s → ShowsOnly v bits text → IsShownAs v l text s

-- The symbol of the manner's front (ECI or nothing) and a shortest division of the data in the manner's modes. For each square
-- within the promised damage a reader shows exactly the characters of a text; without a front it decodes to exactly the bytes.
pub record IsSymbolAs (m : Manner) (v : Version) (l : EcLevel) (bytes : List ℕ) (s : List Color) : Type 0 where
  pub segments : List Segment
  pub least : IsLeastCutIn (modes_of m) v bytes segments
  pub encodes : EncodesBits v l (terminated v l (front m ++ written v (pieces_of bytes segments))) s
  pub shown : IsTrue (is_text m) → IsUtf8 bytes → (other : List Color) → IsDamaged v l encodes.mask s other → ShowsTextOnly other (chars bytes)
  pub read : front m ≡ [] → (other : List Color) → IsDamaged v l encodes.mask s other → ReadsOnly other bytes

-- the result of a constructor that chooses the version: such a symbol in the smallest version from `from` on that holds the data
pub record IsAutomaticAs (m : Manner) (from : Version) (l : EcLevel) (bytes : List ℕ) (result : Result Code QrError) : Type 0 where
  pub level : IfOk result (λ code. code.level ≡ l)
  pub least_version : IfOk result (λ code. IsLeastFrom m from l bytes code.version)
  pub symbol : IfOk result (λ code. IsSymbolAs m code.version l bytes code.modules)
  pub shown : IsTrue (is_text m) → IsUtf8 bytes → IfOk result (λ code. IsShownAs code.version l (chars bytes) code.modules)
  pub refusals : NeedsVersion m from l bytes result

-- such a symbol at the highest level, from l on, at which its version holds the data
pub record IsBoostedAs (m : Manner) (from : Version) (l : EcLevel) (bytes : List ℕ) (code : Code) : Type 0 where
  pub least_version : IsLeastFrom m from l bytes code.version
  pub symbol : IsSymbolAs m code.version code.level bytes code.modules
  pub shown : IsTrue (is_text m) → IsUtf8 bytes → IsShownAs code.version code.level (chars bytes) code.modules
  pub at_least : level_number l ≤ level_number code.level
  pub highest_level : (other : EcLevel) → level_number code.level < level_number other → ¬ HoldsAs m code.version other bytes

-- the result of a constructor that is given the version: such a symbol, if the version holds the data
pub record IsGivenAs (m : Manner) (v : Version) (l : EcLevel) (bytes : List ℕ) (result : Result Code QrError) : Type 0 where
  pub version : IfOk result (λ code. code.version ≡ v)
  pub level : IfOk result (λ code. code.level ≡ l)
  pub symbol : IfOk result (λ code. IsSymbolAs m v l bytes code.modules)
  pub shown : IsTrue (is_text m) → IsUtf8 bytes → IfOk result (λ code. IsShownAs v l (chars bytes) code.modules)
  pub holds : IfOk result (λ code. HoldsAs m v l bytes)
  pub accepts : HoldsAs m v l bytes → IsOkUnless result OutOfMemory
  pub causes : IfErr result (IsRefusedIn m v l bytes)
  pub too_long : IsTrue (is_valid v) → data_limit < length bytes → result ≡ Err DataTooLong
