-- Sets of modes.
use Rattle.std.specs.Prelude.{Bool, true, false}
use Rattle.qrcode_types.specs.declared.types.Mode.{Mode}
use Rattle.qrcode_types.specs.declared.types.Mode.TheVariants.{Numeric, Alphanumeric, Byte, Kanji}
use Rattle.qrcode_bits.specs.declared.optimize.mode_sets.Modes.{Modes}

abbrev pub is_among : Modes → Mode → Bool  -- the mode is in the set
is_among set Numeric = set.numeric
is_among set Alphanumeric = set.alphanumeric
is_among set Byte = set.byte
is_among set Kanji = set.kanji

abbrev pub all_modes : Modes  -- all four modes
all_modes = record { numeric = true; alphanumeric = true; byte = true; kanji = true }

-- The modes for text. Readers decode the bytes of a Kanji segment as Shift JIS, and so would show other characters.
abbrev pub text_modes : Modes
text_modes = record { numeric = true; alphanumeric = true; byte = true; kanji = false }
