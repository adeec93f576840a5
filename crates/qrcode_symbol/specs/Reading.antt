-- Decoding a square of colours to bits.
use Rattle.std.specs.Prelude.{◌≡◌, ◌*◌, ◌≤◌, ℕ, Bool, List, length, IsTrue}
use Rattle.std.specs.List.{AllZip, AllByRecursion}
use Rattle.qrcode_types.specs.Bits.{number_bits, bit_distance}
use Rattle.qrcode_types.specs.Versions.{has_level, side, ec_length}
use Rattle.qrcode_types.specs.declared.types.Version.{Version}
use Rattle.qrcode_types.specs.declared.types.EcLevel.{EcLevel}
use Rattle.qrcode_types.specs.declared.types.Color.{Color}
use Rattle.qrcode_ec.specs.Codes.{Corrects}
use Rattle.qrcode_ec.specs.Blocks.{data_bits}
use Rattle.qrcode_layout.specs.Masks.{exists_in}
use Rattle.qrcode_layout.specs.Words.{format_word}
use Rattle.qrcode_layout.specs.Patterns.{format_copies}
use Rattle.qrcode_layout.specs.declared.masks.MaskPattern.{MaskPattern}
use Rattle.qrcode_symbol.specs.Symbol.{bits_at, blocks_in}

-- the square s decodes to these bits: each copy of the format word has at most three wrong bits, and each block can be corrected
pub record ReadsBits (s : List Color) (v : Version) (l : EcLevel) (bits : List Bool) : Type 0 where
  pub exists : IsTrue (has_level v l)
  pub square : length s ≡ side v * side v
  pub mask : MaskPattern
  pub mask_exists : IsTrue (exists_in v mask)
  pub format : AllByRecursion (λ places. bit_distance (bits_at v s places) (number_bits 15 (format_word v l mask)) ≤ 3) (format_copies v)
  pub corrected : List (List ℕ)
  pub corrects : AllZip (λ r c. Corrects r (ec_length v l) c) (blocks_in v l mask s) corrected
  pub holds : data_bits v l corrected ≡ bits

-- the square decodes to these bits, and to no other version, level or bits
pub record ReadsBitsOnly (s : List Color) (v : Version) (l : EcLevel) (bits : List Bool) : Type 0 where
  pub found : ReadsBits s v l bits
  pub only : (u : Version) (m : EcLevel) (others : List Bool) → ReadsBits s u m others → (u ≡ v) × (m ≡ l) × (others ≡ bits)
