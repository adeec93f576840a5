-- Level and mask of a square.
use Rattle.std.specs.Prelude.{◌≤◌, ◌+◌, ◌*◌, ℕ, nat_abs, IsTrue, Bool, List}
use Rattle.std.specs.List.{AllByRecursion}
use Rattle.qrcode_types.specs.Bits.{number_bits, bit_distance}
use Rattle.qrcode_types.specs.Versions.{has_level}
use Rattle.qrcode_types.specs.declared.types.Version.{Version}
use Rattle.qrcode_types.specs.declared.types.Version.TheVariants.{Normal, Micro}
use Rattle.qrcode_types.specs.declared.types.EcLevel.{EcLevel}
use Rattle.qrcode_types.specs.declared.types.Color.{Color}
use Rattle.qrcode_layout.specs.Masks.{exists_in}
use Rattle.qrcode_layout.specs.Words.{format_word}
use Rattle.qrcode_layout.specs.Patterns.{format_copies, first_format_place, second_format_place, micro_format_place}
use Rattle.qrcode_layout.specs.declared.masks.MaskPattern.{MaskPattern}
use Rattle.qrcode_symbol.specs.Symbol.{bits_at}
use Rattle.qrcode_reader.specs.declared.formats.FormatCopy.{FormatCopy}
use Rattle.qrcode_reader.specs.declared.formats.FormatCopy.TheVariants.{First, Last}

-- the bits of both copies are within three bits of the format word of this level and mask
pub record NamesFormat (v : Version) (first last : List Bool) (l : EcLevel) (k : MaskPattern) : Type 0 where
  pub exists : IsTrue (has_level v l)
  pub mask_exists : IsTrue (exists_in v k)
  pub first_near : bit_distance first (number_bits 15 (format_word v l k)) ≤ 3
  pub last_near : bit_distance last (number_bits 15 (format_word v l k)) ≤ 3

-- each copy of the format word in the square is within three bits of that of this level and mask
pub record HasFormat (v : Version) (s : List Color) (l : EcLevel) (k : MaskPattern) : Type 0 where
  pub exists : IsTrue (has_level v l)
  pub mask_exists : IsTrue (exists_in v k)
  pub near : AllByRecursion (λ places. bit_distance (bits_at v s places) (number_bits 15 (format_word v l k)) ≤ 3) (format_copies v)

abbrev pub first_copy : Version → ℕ → ℕ × ℕ  -- the place of bit i of the first copy of the format word
first_copy (Normal v) i = first_format_place i
first_copy (Micro v) i = micro_format_place i

abbrev pub last_copy : Version → ℕ → ℕ × ℕ  -- the place of bit i of the last copy; in Micro there is only one copy
last_copy (Normal v) i = second_format_place (4 * nat_abs v + 17) i
last_copy (Micro v) i = micro_format_place i

abbrev pub copy_place : FormatCopy → Version → ℕ → ℕ × ℕ  -- the place of bit i of either copy
copy_place First = first_copy
copy_place Last = last_copy
