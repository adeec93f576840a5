-- What stands before the segments of a text in a set, and the modes of the segments.
use Rattle.std.specs.Prelude.{ℕ, not, Bool, true, List, [], ◌++◌, Option, Some, None}
use Rattle.qrcode_types.specs.Bits.{number_bits}
use Rattle.qrcode_types.specs.Versions.{is_micro}
use Rattle.qrcode_types.specs.declared.types.Version.{Version}
use Rattle.qrcode_bits.specs.ModeSets.{all_modes, text_modes}
use Rattle.qrcode_bits.specs.Written.{eci_bits}
use Rattle.qrcode_bits.specs.declared.optimize.mode_sets.Modes.{Modes}
use Rattle.qrcode_charsets.specs.Charsets.{designator}
use Rattle.qrcode_charsets.specs.declared.sets.Charset.{Charset}
use Rattle.qrcode_charsets.specs.declared.sets.Charset.TheVariants.{Unmarked, Utf8, OneByte, ShiftJis}

abbrev pub designator_bits : Option ℕ → List Bool  -- the mode indicator of ECI and the designator
designator_bits None = []
designator_bits (Some n) = number_bits 4 7 ++ eci_bits n

abbrev pub front : Charset → List Bool  -- the bits before the segments
front c = designator_bits (designator c)

abbrev pub has_front : Version → Charset → Bool  -- the version allows them: Micro has no ECI
has_front v Unmarked = true
has_front v Utf8 = not (is_micro v)
has_front v (OneByte p) = not (is_micro v)
has_front v ShiftJis = not (is_micro v)

-- The modes that write a text in the set.
abbrev pub charset_modes : Charset → Modes
charset_modes Unmarked = text_modes
charset_modes Utf8 = text_modes
charset_modes (OneByte p) = text_modes
charset_modes ShiftJis = all_modes
