-- Modes: which a version has, their indicators, length fields and data bits, and their order.
use Rattle.std.specs.Prelude.{ℕ, ◌+◌, ◌-◌, ◌*◌, ◌/◌, ◌^◌, ◌<◌, ◌≤◌, ◌==◌, nat_le, nat_lt, Bool, true, false, IsTrue, nat_abs, Option, Some, None, if◌then◌else◌}
use Rattle.std.specs.declared.cmp.Ordering.{Ordering}
use Rattle.std.specs.declared.cmp.Ordering.TheVariants.{Less, Equal, Greater}
use Rattle.qrcode_types.specs.Versions.{capacity}
use Rattle.qrcode_types.specs.declared.types.EcLevel.{EcLevel}
use Rattle.qrcode_types.specs.declared.types.Version.{Version}
use Rattle.qrcode_types.specs.declared.types.Version.TheVariants.{Normal, Micro}
use Rattle.qrcode_types.specs.declared.types.Mode.{Mode}
use Rattle.qrcode_types.specs.declared.types.Mode.TheVariants.{Numeric, Alphanumeric, Byte, Kanji}

abbrev pub mode_bits_count : Version → ℕ  -- the number of bits in a mode indicator
mode_bits_count (Normal v) = 4
mode_bits_count (Micro v) = nat_abs v - 1

abbrev pub mode_number : Mode → ℕ  -- the value of the mode indicator in Micro; in Normal, the number of the bit that is set
mode_number Numeric = 0
mode_number Alphanumeric = 1
mode_number Byte = 2
mode_number Kanji = 3

abbrev pub indicator : Version → Mode → ℕ  -- the value of the mode indicator
indicator (Normal v) m = 2 ^ mode_number m
indicator (Micro v) m = mode_number m

abbrev pub has_mode : Version → Mode → Bool  -- Normal versions have all modes, Micro versions those whose number fits the indicator
has_mode (Normal v) m = true
has_mode (Micro v) m = nat_lt (mode_number m) (2 ^ (nat_abs v - 1))

abbrev pub by_band : ℕ → ℕ → ℕ → ℕ → ℕ  -- a number for Normal 1 to 9, for 10 to 26, or for 27 to 40
by_band v small middle large = if nat_le v 9 then small else (if nat_le v 26 then middle else large)

abbrev pub length_bits_count : Mode → Version → ℕ  -- the number of bits in a length field (character count indicator)
length_bits_count Numeric (Normal v) = by_band (nat_abs v) 10 12 14
length_bits_count Alphanumeric (Normal v) = by_band (nat_abs v) 9 11 13
length_bits_count Byte (Normal v) = by_band (nat_abs v) 8 16 16
length_bits_count Kanji (Normal v) = by_band (nat_abs v) 8 10 12
length_bits_count Numeric (Micro v) = nat_abs v + 2
length_bits_count Alphanumeric (Micro v) = nat_abs v + 1
length_bits_count Byte (Micro v) = nat_abs v + 1
length_bits_count Kanji (Micro v) = nat_abs v

abbrev pub data_bits_count : Mode → ℕ → ℕ  -- how many bits `count` characters take in this mode
data_bits_count Numeric count = (10 * count + 2) / 3
data_bits_count Alphanumeric count = (11 * count + 1) / 2
data_bits_count Byte count = 8 * count
data_bits_count Kanji count = 13 * count

-- if a symbol of the version has room for that many characters, their count fits the length field of the mode
pub record CountsFit (m : Mode) (v : Version) : Type 0 where
  pub fits : (l : EcLevel) (count : ℕ) → mode_bits_count v + length_bits_count m v + data_bits_count m count ≤ capacity v l → count < 2 ^ length_bits_count m v

abbrev pub is_at_most : Mode → Mode → Bool  -- the second mode can write everything the first can
is_at_most Numeric Numeric = true
is_at_most Numeric Alphanumeric = true
is_at_most Numeric Byte = true
is_at_most Numeric Kanji = false
is_at_most Alphanumeric Numeric = false
is_at_most Alphanumeric Alphanumeric = true
is_at_most Alphanumeric Byte = true
is_at_most Alphanumeric Kanji = false
is_at_most Byte Numeric = false
is_at_most Byte Alphanumeric = false
is_at_most Byte Byte = true
is_at_most Byte Kanji = false
is_at_most Kanji Numeric = false
is_at_most Kanji Alphanumeric = false
is_at_most Kanji Byte = true
is_at_most Kanji Kanji = true

pub record IsLeastUpperBound (a b m : Mode) : Type 0 where  -- m is the smallest mode that is at least a and at least b
  pub above_first : IsTrue (is_at_most a m)
  pub above_second : IsTrue (is_at_most b m)
  pub least : (bound : Mode) → IsTrue (is_at_most a bound) → IsTrue (is_at_most b bound) → IsTrue (is_at_most m bound)

-- how two things compare: is the first at most the second, and the second at most the first
abbrev pub order_by : Bool → Bool → Option Ordering
order_by true true = Some Equal
order_by true false = Some Less
order_by false true = Some Greater
order_by false false = None

abbrev pub mode_order : Mode → Mode → Option Ordering  -- how two modes compare by what they can write
mode_order a b = order_by (is_at_most a b) (is_at_most b a)

-- the greater of two modes in that order, or Byte if neither is
abbrev pub greater_mode : Option Ordering → Mode → Mode → Mode
greater_mode (Some Less) a b = b
greater_mode (Some Equal) a b = b
greater_mode (Some Greater) a b = a
greater_mode None a b = Byte

abbrev pub mode_max : Mode → Mode → Mode  -- the smallest mode that can write whatever either of the two can
mode_max a b = greater_mode (mode_order a b) a b
