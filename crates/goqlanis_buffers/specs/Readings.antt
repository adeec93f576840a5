-- What the calls for C read.
use Rattle.std.specs.Prelude.{◌≡◌, ℕ, ◌+◌, ◌*◌, Bool, List, length, chars, Some, if◌then◌else◌}
use Rattle.qrcode_types.specs.declared.types.EcLevel.{EcLevel}
use Rattle.qrcode_types.specs.declared.types.Version.{Version}
use Rattle.qrcode_types.specs.Versions.{side}
use Rattle.qrcode_check.specs.Masks.{mask_place}
use Rattle.qrcode_layout.specs.declared.masks.MaskPattern.{MaskPattern}
use Rattle.qrcode_types.specs.declared.types.Color.{Color}
use Rattle.qrcode.specs.Reading.{Reads}
use Rattle.qrcode_reader.specs.Formats.{HasFormat}
use Rattle.qrcode_reader.specs.Positions.{seen, IsFirstReading}
use Rattle.qrcode_reader.specs.Readings.{IsReading, IsTextReading}
use Rattle.qrcode_reader.specs.declared.positions.AnyReading as reader
use Rattle.qrcode_reader.specs.declared.positions.Position.{Position}
use Rattle.qrcode_reader.specs.declared.positions.Position.TheVariants.{Upright, TurnedLeft, UpsideDown, TurnedRight, Mirrored, Flipped, Transposed, Antitransposed}
use Rattle.qrcode_reader.specs.declared.correction.WrongCodeword.{WrongCodeword}
use Rattle.goqlanis_buffers.specs.Shades.{colors_of}
use Rattle.goqlanis_buffers.specs.Names.{level_named, version_named}
use Rattle.goqlanis_buffers.specs.Outputs.{IsFilled}
use Rattle.goqlanis_buffers.specs.declared.reading.AnyReading.{AnyReading}
use Rattle.goqlanis_buffers.specs.declared.reading.Reading.{Reading}

abbrev pub plain_number : Position → ℕ  -- the number of a position
plain_number Upright = 0
plain_number TurnedLeft = 1
plain_number UpsideDown = 2
plain_number TurnedRight = 3
plain_number Mirrored = 4
plain_number Flipped = 5
plain_number Transposed = 6
plain_number Antitransposed = 7

abbrev pub position_number : Position → Bool → ℕ  -- the number of a position, plus 8 if inverted
position_number p is_inverted = if is_inverted then plain_number p + 8 else plain_number p

-- a reading in the form that C gets, except its bytes
pub record IsReadingOf (v : Version) (l : EcLevel) (mask : MaskPattern) (wrong count : ℕ) (reading : Reading) : Type 0 where
  pub version : version_named reading.version ≡ Some v
  pub level : level_named reading.level ≡ Some l
  pub mask_reported : reading.mask ≡ mask_place v mask
  pub wrong_reported : reading.wrong ≡ wrong
  pub counted : reading.length ≡ count

-- the only reading of a square of modules: its bytes at the start of a buffer, and the rest of it
pub record IsReadInto (modules old new : List ℕ) (reading : Reading) : Type 0 where
  pub version : Version
  pub level : EcLevel
  pub mask : MaskPattern
  pub bytes : List ℕ
  pub wrong : List WrongCodeword
  pub read : IsReading (colors_of modules) version level mask bytes wrong
  pub filled : IsFilled old new bytes
  pub reported : IsReadingOf version level mask (length wrong) (length bytes) reading

-- a square does not decode in any position
pub record IsReadNowhere (s : List Color) : Type 0 where
  pub none : (side : ℕ) → side * side ≡ length s → (p : Position) (is_inverted : Bool) (bytes : List ℕ) → ¬ Reads (seen side p is_inverted s) bytes

-- the reading of a square in a position
pub record Anywhere : Type 0 where
  pub position : Position
  pub is_inverted : Bool
  pub version : Version
  pub level : EcLevel
  pub mask : MaskPattern
  pub bytes : List ℕ
  pub wrong : List WrongCodeword

abbrev pub found_anywhere : reader.AnyReading → Anywhere
found_anywhere any = record {
  position = any.position;
  is_inverted = any.is_inverted;
  version = any.reading.version;
  level = any.reading.ec_level;
  mask = any.reading.mask;
  bytes = any.reading.data.items;
  wrong = any.reading.wrong.items;
}

-- the reading of a square in the first position in which it decodes
pub record IsReadAnywhere (s : List Color) (any : Anywhere) : Type 0 where
  pub side : ℕ
  pub square : side * side ≡ length s
  pub read : IsFirstReading side s any.position any.is_inverted any.version any.level any.mask any.bytes any.wrong

-- this reading with its bytes at the start of a buffer
pub record IsAnyReadInto (modules old new : List ℕ) (any : AnyReading) : Type 0 where
  pub found : Anywhere
  pub read : IsReadAnywhere (colors_of modules) found
  pub filled : IsFilled old new found.bytes
  pub reported : IsReadingOf found.version found.level found.mask (length found.wrong) (length found.bytes) any.reading
  pub position_reported : any.position ≡ position_number found.position found.is_inverted

-- the only text that readers show of a square of modules, at the start of a buffer, and the rest of its reading
pub record IsTextReadInto (modules old new : List ℕ) (reading : Reading) : Type 0 where
  pub version : Version
  pub level : EcLevel
  pub mask : MaskPattern
  pub bytes : List ℕ
  pub wrong : List WrongCodeword
  pub read : IsTextReading (colors_of modules) version level mask (chars bytes) wrong
  pub filled : IsFilled old new bytes
  pub reported : IsReadingOf version level mask (length wrong) (length bytes) reading

-- the number of the mask that the format information of a square of modules names
pub record IsMaskNumber (modules : List ℕ) (number : ℕ) : Type 0 where
  pub version : Version
  pub level : EcLevel
  pub mask : MaskPattern
  pub square : length (colors_of modules) ≡ side version * side version
  pub named : HasFormat version (colors_of modules) level mask
  pub reported : number ≡ mask_place version mask
