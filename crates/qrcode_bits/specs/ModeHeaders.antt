-- How many bits a segment takes before its data.
use Rattle.std.specs.Prelude.{ℕ, ◌+◌, ◌&&◌, if◌then◌else◌}
use Rattle.qrcode_types.specs.Modes.{has_mode, mode_bits_count, length_bits_count}
use Rattle.qrcode_types.specs.declared.types.Version.{Version}
use Rattle.qrcode_types.specs.declared.types.Mode.{Mode}
use Rattle.qrcode_bits.specs.ModeSets.{is_among}
use Rattle.qrcode_bits.specs.declared.optimize.mode_sets.Modes.{Modes}

abbrev pub more_than_any : ℕ  -- more bits than any data takes
more_than_any = 1073741824

-- the bits of mode indicator and length field, or more_than_any if the version or the set lacks the mode
abbrev pub header : Modes → Version → Mode → ℕ
header set v m = if has_mode v m && is_among set m then mode_bits_count v + length_bits_count m v else more_than_any
