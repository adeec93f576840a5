-- Black and white pixels.
use Rattle.std.specs.Prelude.{Bool, true, false}
use Rattle.qrcode_sheets.specs.declared.pbm.Bit.{Bit}
use Rattle.qrcode_sheets.specs.declared.pbm.Bit.TheVariants.{White, Black}

-- whether the pixel is black
abbrev pub is_black : Bit → Bool
is_black White = false
is_black Black = true
