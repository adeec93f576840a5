-- Pictures of a symbol.
use Rattle.std.specs.Prelude.{ℕ, List, encode_utf8}
use Rattle.qrcode_types.specs.Versions.{side}
use Rattle.qrcode_types.specs.declared.types.Version.{Version}
use Rattle.qrcode_types.specs.declared.types.Version.TheVariants.{Normal, Micro}
use Rattle.qrcode_types.specs.declared.types.Color.{Color}
use Rattle.qrcode_render.specs.Layout.{Layout, layout}
use Rattle.qrcode_render.specs.Picture.{picture}
use Rattle.qrcode_render.specs.Texts.{text_of}

abbrev pub quiet_zone : Version → ℕ  -- the width of the quiet zone in modules
quiet_zone (Normal v) = 4
quiet_zone (Micro v) = 2

-- a symbol with its quiet zone, each module that many pixels wide and high
abbrev pub layout_in : ℕ → Version → Layout
layout_in pixels v = layout (side v) (quiet_zone v) pixels pixels

abbrev pub debug_text : Version → List Color → ℕ → ℕ → List ℕ  -- one character for each module, without a quiet zone
debug_text v colors on off = text_of (encode_utf8 on) (encode_utf8 off) (picture (layout (side v) 0 1 1) colors)

abbrev pub cells_text : Version → List Color → List ℕ → List ℕ → List ℕ  -- one text for each module, with the quiet zone
cells_text v colors dark light = text_of dark light (picture (layout_in 1 v) colors)
