-- Pixels that are half a character high.
use Rattle.std.specs.Prelude.{Bool, true, false}
use Rattle.qrcode_render.specs.declared.unicode.Dense1x2.{Dense1x2}
use Rattle.qrcode_render.specs.declared.unicode.Dense1x2.TheVariants.{Dark, Light}

-- whether the half is drawn
abbrev pub is_dark_half : Dense1x2 → Bool
is_dark_half Dark = true
is_dark_half Light = false
