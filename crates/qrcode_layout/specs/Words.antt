-- The format and version words.
use Rattle.std.specs.Prelude.{◌≡◌, ℕ, ◌+◌, ◌-◌, ◌*◌, ◌^◌, ◌<◌, ◌≤◌, bit_xor, nat_abs, IsTrue, if◌then◌else◌}
use Rattle.qrcode_types.specs.Bits.{number_bits, bit_distance}
use Rattle.qrcode_types.specs.Polynomials.{remainder}
use Rattle.qrcode_types.specs.Versions.{is_micro, has_level, level_number}
use Rattle.qrcode_types.specs.declared.types.Version.{Version}
use Rattle.qrcode_types.specs.declared.types.Version.TheVariants.{Normal, Micro}
use Rattle.qrcode_types.specs.declared.types.EcLevel.{EcLevel}
use Rattle.qrcode_types.specs.declared.types.EcLevel.TheVariants.{L, M, Q, H}
use Rattle.qrcode_layout.specs.Masks.{mask_number, micro_mask_number, exists_in}
use Rattle.qrcode_layout.specs.declared.masks.MaskPattern.{MaskPattern}

-- a message and its `count` check bits: the remainder of message * x^count by a divisor of that degree
unfoldable pub with_check_bits : ℕ → ℕ → ℕ → ℕ
with_check_bits divisor count message = message * 2 ^ count + remainder divisor (message * 2 ^ count)

abbrev pub level_bits : EcLevel → ℕ  -- the two bits that name a level in Normal
level_bits L = 1
level_bits M = 0
level_bits Q = 3
level_bits H = 2

-- The five bits that name level and mask. In Micro, the pairs of version and level are numbered: Micro 1 at L is 0 (subtraction stops at 0), Micro 2
-- at L and M are 1 and 2, Micro 3 at L and M are 3 and 4, Micro 4 at L, M and Q are 5, 6 and 7.
abbrev pub format_bits : Version → EcLevel → MaskPattern → ℕ
format_bits (Normal v) l k = 8 * level_bits l + mask_number k
format_bits (Micro v) l k = 4 * (2 * nat_abs v - 3 + level_number l) + micro_mask_number k

-- the fifteen bits that name level and mask, xor a fixed word; the divisor is x^10 + x^8 + x^5 + x^4 + x^2 + x + 1
unfoldable pub format_word : Version → EcLevel → MaskPattern → ℕ
format_word v l k = bit_xor (with_check_bits 0x537 10 (format_bits v l k)) (if is_micro v then 0x4445 else 0x5412)

-- the eighteen bits that name a version, from Normal 7 on; the divisor is x^12 + x^11 + x^10 + x^9 + x^8 + x^5 + x^2 + 1
unfoldable pub version_word : ℕ → ℕ
version_word v = with_check_bits 0x1f25 12 v

abbrev pub VersionWordsAreApart : Type 0  -- two version words differ in at least eight bits
VersionWordsAreApart = (a b : ℕ) → 7 ≤ a → a < b → b ≤ 40 → 8 ≤ bit_distance (number_bits 18 (version_word a)) (number_bits 18 (version_word b))

-- two format words name the same level and mask, and in Micro the same version
pub record NameTheSame (u v : Version) (l m : EcLevel) (j k : MaskPattern) : Type 0 where
  pub micro_version : IsTrue (is_micro u) → u ≡ v
  pub level : l ≡ m
  pub mask : j ≡ k

-- Two format words of Normal, or two of Micro, that name a different level, mask or Micro version differ in at least seven bits: if they differ in
-- fewer, they name the same.
abbrev pub FormatWordsAreApart : Type 0
FormatWordsAreApart =
    (u v : Version) (l m : EcLevel) (j k : MaskPattern) → is_micro u ≡ is_micro v → IsTrue (has_level u l) → IsTrue (has_level v m)
    → IsTrue (exists_in u j) → IsTrue (exists_in v k)
    → bit_distance (number_bits 15 (format_word u l j)) (number_bits 15 (format_word v m k)) < 7 → NameTheSame u v l m j k
