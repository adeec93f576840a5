-- The six ways to draw a symbol, each with its quiet zone.
use Rattle.std.specs.Prelude.{ℕ, true, false, List, [], ◌∷◌, ◌++◌, codes, decimal, encode_utf8}
use Rattle.qrcode_types.specs.declared.types.Version.{Version}
use Rattle.qrcode_types.specs.declared.types.Color.{Color}
use Rattle.qrcode_render.specs.Layout.{pixels_across, pixels_down}
use Rattle.qrcode_render.specs.Pic as pic
use Rattle.qrcode_render.specs.Picture.{picture}
use Rattle.qrcode_render.specs.Svg as svg
use Rattle.qrcode_render.specs.Texts.{dense_text, raw_bytes}
use Rattle.qrcode.specs.Pictures.{layout_in, cells_text}

abbrev pub char_text : Version → List Color → List ℕ  -- full blocks for dark modules, spaces for light ones
char_text v s = cells_text v s (encode_utf8 0x2588) (encode_utf8 32)

abbrev pub pair_text : Version → List Color → List ℕ  -- two characters per module
pair_text v s = cells_text v s (codes "##") (codes "  ")

abbrev pub half_block_text : Version → List Color → List ℕ  -- half blocks, drawn where modules are dark
half_block_text v s = dense_text true false (picture (layout_in 1 v) s)

abbrev pub svg_text : ℕ → Version → List Color → List ℕ  -- SVG, black on white
svg_text pixels v s = svg.svg_text (layout_in pixels v) s (codes "#000") (codes "#fff")

abbrev pub pic_text : Version → List Color → List ℕ  -- PIC, a box for each dark module
pic_text v s = pic.pic_text (layout_in 1 v) s

-- a binary PGM file: its header, and one byte per pixel, 0 for dark and 255 for light
abbrev pub grey_map : Version → List Color → List ℕ
grey_map v s =
    let at = layout_in 8 v in
    codes "P5\n" ++ (decimal (pixels_across at) ++ (codes " " ++ (decimal (pixels_down at) ++ codes "\n255\n")))
    ++ raw_bytes (0 ∷ []) (255 ∷ []) (picture at s)
