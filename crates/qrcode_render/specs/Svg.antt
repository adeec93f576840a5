-- The text of SVG with a rectangle for each dark module.
use Rattle.std.specs.Prelude.{ℕ, List, ◌++◌, codes, decimal}
use Rattle.qrcode_types.specs.declared.types.Color.{Color}
use Rattle.qrcode_render.specs.Drawn.{drawn}
use Rattle.qrcode_render.specs.Layout.{Layout, pixels_across, pixels_down}

-- the picture's width and height, and its `viewBox`
abbrev pub svg_frame : ℕ → ℕ → List ℕ
svg_frame w h =
    decimal w ++ (codes "\" height=\"" ++ (decimal h ++ (codes "\" viewBox=\"0 0 " ++ (decimal w ++ (codes " " ++ (decimal h ++ codes "\" shape-rendering=\"crispEdges\">"))))))

-- the light background, and the beginning of the dark path
abbrev pub svg_ground : ℕ → ℕ → List ℕ → List ℕ → List ℕ
svg_ground w h dark light =
    codes "<rect x=\"0\" y=\"0\" width=\"" ++ (decimal w ++ (codes "\" height=\"" ++ (decimal h ++ (codes "\" fill=\"" ++ (light ++ (codes "\"/><path fill=\"" ++ (dark ++ codes "\" d=\"")))))))

-- the text before the first dark rectangle
unfoldable pub svg_start : ℕ → ℕ → List ℕ → List ℕ → List ℕ
svg_start w h dark light =
    codes "<?xml version=\"1.0\" standalone=\"yes\"?><svg xmlns=\"http://www.w3.org/2000/svg\" version=\"1.1\" width=\"" ++ svg_frame w h ++ svg_ground w h dark light

-- the text followed by the subpath of a rectangle
abbrev pub svg_rect : ℕ → ℕ → ℕ → ℕ → List ℕ → List ℕ
svg_rect left top width height text =
    text ++ (codes "M" ++ (decimal left ++ (codes " " ++ (decimal top ++ (codes "h" ++ (decimal width ++ (codes "v" ++ (decimal height ++ (codes "H" ++ (decimal left ++ (codes "V" ++ decimal top)))))))))))

-- the text after the last dark rectangle
abbrev pub svg_end : List ℕ
svg_end = codes "\"/></svg>"

-- the picture of modules in a dark and a light colour
abbrev pub svg_text : Layout → List Color → List ℕ → List ℕ → List ℕ
svg_text at content dark light = drawn svg_rect at content (svg_start (pixels_across at) (pixels_down at) dark light) ++ svg_end
