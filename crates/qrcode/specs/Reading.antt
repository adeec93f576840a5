-- Which bytes a square decodes to, and what a constructor promises.
use Rattle.std.specs.Prelude.{◌≡◌, ℕ, Bool, List, IsTrue}
use Rattle.qrcode_types.specs.declared.types.Version.{Version}
use Rattle.qrcode_types.specs.declared.types.EcLevel.{EcLevel}
use Rattle.qrcode_types.specs.declared.types.Color.{Color}
use Rattle.qrcode_layout.specs.Masks.{exists_in}
use Rattle.qrcode_layout.specs.declared.masks.MaskPattern.{MaskPattern}
use Rattle.qrcode_symbol.specs.Symbol.{IsSymbol, IsDamaged}
use Rattle.qrcode_symbol.specs.Penalties.{IsFirstLeast}
use Rattle.qrcode_symbol.specs.Reading.{ReadsBits, ReadsBitsOnly}
use Rattle.qrcode_bits.specs.Spelling.{Spells}

pub record Reads (s : List Color) (bytes : List ℕ) : Type 0 where  -- the square s decodes to bytes
  pub version : Version
  pub level : EcLevel
  pub bits : List Bool
  pub read : ReadsBits s version level bits
  pub spelled : Spells version bits bytes

pub record ReadsOnly (s : List Color) (bytes : List ℕ) : Type 0 where  -- s decodes to bytes, and to no others
  pub found : Reads s bytes
  pub only : (others : List ℕ) → Reads s others → others ≡ bytes

-- no square decodes in two ways: its version, level and bits are always the same
abbrev pub BitsAreReadOneWay : Type 0
BitsAreReadOneWay =
    (s : List Color) (v u : Version) (l m : EcLevel) (bits others : List Bool) → ReadsBits s v l bits → ReadsBits s u m others
    → (u ≡ v) × (m ≡ l) × (others ≡ bits)

abbrev pub BytesAreReadOneWay : Type 0  -- and so are its bytes
BytesAreReadOneWay = (s : List Color) (bytes others : List ℕ) → Reads s bytes → Reads s others → others ≡ bytes

-- the symbol of bits under the first mask with the lowest penalty; every square within the promised damage reads as these bits and no others
pub record EncodesBits (v : Version) (l : EcLevel) (bits : List Bool) (s : List Color) : Type 0 where
  pub mask : MaskPattern
  pub mask_exists : IsTrue (exists_in v mask)
  pub symbol : IsSymbol v l bits mask s
  pub first_least : IsFirstLeast v l mask s
  pub read : (other : List Color) → IsDamaged v l mask s other → ReadsBitsOnly other v l bits

-- such a symbol for which every square within the promised damage decodes to these bytes and no others
pub record EncodesBytes (v : Version) (l : EcLevel) (bits : List Bool) (bytes : List ℕ) (s : List Color) : Type 0 where
  pub encodes : EncodesBits v l bits s
  pub read : (other : List Color) → IsDamaged v l encodes.mask s other → ReadsOnly other bytes

-- new has the modules of the symbol s under mask k: if s is the symbol of some bits, new is so under k. Every square within
-- the promised damage of new reads as these bits and no others, and decodes to the bytes that s encodes and no others.
pub record IsUnderMask (v : Version) (l : EcLevel) (k : MaskPattern) (s new : List Color) : Type 0 where
  pub symbol : (j : MaskPattern) (bits : List Bool) → IsTrue (exists_in v j) → IsSymbol v l bits j s → IsSymbol v l bits k new
  pub read_bits : (j : MaskPattern) (bits : List Bool) (other : List Color) → IsTrue (exists_in v j) → IsSymbol v l bits j s → IsDamaged v l k new other
      → ReadsBitsOnly other v l bits
  pub read_bytes : (bits : List Bool) (bytes : List ℕ) (other : List Color) → EncodesBytes v l bits bytes s → IsDamaged v l k new other → ReadsOnly other bytes
