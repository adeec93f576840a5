-- Packed rows written as colours.
use Rattle.std.specs.Prelude.{◌≡◌, ℕ, ◌+◌, ◌<◌, List, length, slice_index_or}
use Rattle.qrcode_types.specs.Colors.{color_of}
use Rattle.qrcode_types.specs.declared.types.Color.{Color}
use Rattle.qrcode_types.specs.declared.types.Color.TheVariants.{Light}
use Rattle.qrcode_penalty.specs.Rows.{is_set}

-- the colours of the first `width` places of the line are appended
pub record IsRowWritten (line width : ℕ) (old new : List Color) : Type 0 where
  pub size : length new ≡ length old + width
  pub before : (i : ℕ) → i < length old → slice_index_or new i Light ≡ slice_index_or old i Light
  pub shown : (x : ℕ) → x < width → slice_index_or new (length old + x) Light ≡ color_of (is_set line x)
