-- What a square decodes to, and why it does not.
use Rattle.std.specs.Prelude.{◌≡◌, ◌≢◌, ◌*◌, ℕ, Bool, List, length, IsTrue}
use Rattle.qrcode_types.specs.Versions.{is_valid, side}
use Rattle.qrcode_types.specs.declared.types.Version.{Version}
use Rattle.qrcode_types.specs.declared.types.EcLevel.{EcLevel}
use Rattle.qrcode_types.specs.declared.types.Color.{Color}
use Rattle.qrcode_ec.specs.Blocks.{codewords}
use Rattle.qrcode_layout.specs.Stream.{stream}
use Rattle.qrcode_layout.specs.declared.masks.MaskPattern.{MaskPattern}
use Rattle.qrcode_symbol.specs.Symbol.{blocks_in}
use Rattle.qrcode_symbol.specs.Reading.{ReadsBits, ReadsBitsOnly}
use Rattle.qrcode_bits.specs.Spelling.{Spells}
use Rattle.qrcode_bits.specs.Shown.{Shows}
use Rattle.qrcode.specs.Reading.{ReadsOnly}
use Rattle.qrcode.specs.Texts.{ShowsTextOnly}
use Rattle.qrcode_reader.specs.Formats.{HasFormat}
use Rattle.qrcode_reader.specs.Corrected.{wrong_from, IsFirstDamaged}
use Rattle.qrcode_reader.specs.spell.Parts.{AreParts, HaveNoParts}
use Rattle.qrcode_reader.specs.declared.spell.parts.Part.{Part}
use Rattle.qrcode_reader.specs.declared.correction.WrongCodeword.{WrongCodeword}
use Rattle.qrcode_reader.specs.declared.refusals.Unread.{Unread}
use Rattle.qrcode_reader.specs.declared.refusals.UnreadText.{UnreadText}
use Rattle.qrcode_reader.specs.declared.refusals.UnreadText.TheVariants.{NoBits, NotShown}
use Rattle.qrcode_reader.specs.declared.refusals.Unread.TheVariants.{NoSuchSide, NoFormat, Damaged, NotSpelled, OutOfMemory}

-- the square decodes to these bits and no others; k is its mask, and these codewords were wrong
pub record IsBitReading (s : List Color) (v : Version) (l : EcLevel) (k : MaskPattern) (bits : List Bool) (wrong : List WrongCodeword) : Type 0 where
  pub only : ReadsBitsOnly s v l bits
  pub mask : only.found.mask ≡ k
  pub places : wrong ≡ wrong_from 0 (blocks_in v l k s) only.found.corrected

-- the square decodes to these bytes and no others; version, level, mask and wrong codewords are those of its bits
pub record IsReading (s : List Color) (v : Version) (l : EcLevel) (k : MaskPattern) (bytes : List ℕ) (wrong : List WrongCodeword) : Type 0 where
  pub only : ReadsOnly s bytes
  pub bits : List Bool
  pub read : IsBitReading s v l k bits wrong
  pub spelled : Spells v bits bytes

-- a reader shows these characters and no others for the square; version, level, mask and wrong codewords are those of its bits
pub record IsTextReading (s : List Color) (v : Version) (l : EcLevel) (k : MaskPattern) (text : List ℕ) (wrong : List WrongCodeword) : Type 0 where
  pub only : ShowsTextOnly s text
  pub bits : List Bool
  pub read : IsBitReading s v l k bits wrong
  pub shown : Shows v bits text

-- the square decodes to these headers and segments, the segments having these bytes
pub record ReadsParts (s : List Color) (bytes : List ℕ) (parts : List Part) : Type 0 where
  pub version : Version
  pub level : EcLevel
  pub bits : List Bool
  pub read : ReadsBits s version level bits
  pub parted : AreParts version bits bytes parts

-- the square decodes to these headers and segments and no others; version, level, mask and wrong codewords are those of its bits
pub record IsPartsReading (s : List Color) (v : Version) (l : EcLevel) (k : MaskPattern) (bytes : List ℕ) (parts : List Part) (wrong : List WrongCodeword) : Type 0 where
  pub only : (others : List ℕ) (more : List Part) → ReadsParts s others more → (others ≡ bytes) × (more ≡ parts)
  pub bits : List Bool
  pub read : IsBitReading s v l k bits wrong
  pub parted : AreParts v bits bytes parts

abbrev pub HasNoVersion : List Color → Type 0  -- no version has that many modules
HasNoVersion s = (v : Version) → IsTrue (is_valid v) → length s ≢ side v * side v

-- a version has that many modules, but no level and mask have a format word near each copy
pub record HasNoFormat (s : List Color) : Type 0 where
  pub version : Version
  pub valid : IsTrue (is_valid version)
  pub square : length s ≡ side version * side version
  pub none : (l : EcLevel) (k : MaskPattern) → ¬ HasFormat version s l k

-- version, level and mask are known, and block b is the first that cannot be corrected
pub record HasDamagedBlock (s : List Color) (b : ℕ) : Type 0 where
  pub version : Version
  pub level : EcLevel
  pub mask : MaskPattern
  pub square : length s ≡ side version * side version
  pub format : HasFormat version s level mask
  pub first : IsFirstDamaged version level (codewords version level (stream version mask s)) b

-- all blocks can be corrected, but the bits mean nothing: `Nothing` says in which sense
pub record MeansNothing (Nothing : Version → List Bool → Type 0) (s : List Color) : Type 0 where
  pub version : Version
  pub level : EcLevel
  pub bits : List Bool
  pub only : ReadsBitsOnly s version level bits
  pub none : Nothing version bits

abbrev pub SpellsNothing : List Color → Type 0  -- the bits decode to no bytes
SpellsNothing s = MeansNothing (λ v bits. (bytes : List ℕ) → ¬ Spells v bits bytes) s

abbrev pub ShowsNothing : List Color → Type 0  -- a reader shows no text for the bits
ShowsNothing s = MeansNothing (λ v bits. (text : List ℕ) → ¬ Shows v bits text) s

abbrev pub HoldsNoParts : List Color → Type 0  -- the bits decode to no headers and segments
HoldsNoParts s = MeansNothing HaveNoParts s

abbrev pub IsBitCause : List Color → Unread → Type 0  -- why a square does not decode to bits
IsBitCause s NoSuchSide = HasNoVersion s
IsBitCause s NoFormat = HasNoFormat s
IsBitCause s (Damaged b) = HasDamagedBlock s b
IsBitCause s NotSpelled = ⊥
IsBitCause s OutOfMemory = Unit

abbrev pub IsUnreadCause : List Color → Unread → Type 0  -- why a square does not decode to bytes
IsUnreadCause s NotSpelled = SpellsNothing s
IsUnreadCause s e = IsBitCause s e

abbrev pub IsPartsCause : List Color → Unread → Type 0  -- why a square does not decode to headers and segments
IsPartsCause s NotSpelled = HoldsNoParts s
IsPartsCause s e = IsBitCause s e

abbrev pub IsTextCause : List Color → UnreadText → Type 0  -- why a reader shows no text for a square
IsTextCause s (NoBits e) = IsBitCause s e
IsTextCause s NotShown = ShowsNothing s
