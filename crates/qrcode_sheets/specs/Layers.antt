-- Symbols whose parts have their own colours, drawn layer upon layer.
use Rattle.std.specs.Prelude.{◌≡◌, ℕ, ◌+◌, ◌-◌, ◌*◌, ◌/◌, ◌%◌, ◌==◌, nat_le, nat_lt, ◌&&◌, Bool, false, not, List, [], ◌∷◌, ◌++◌, option_map, codes, fold, length, map, slice_index_or, if◌then◌else◌}
use Rattle.std.specs.List.{range_with_len}
use Rattle.qrcode_types.specs.Colors.{color_of, is_dark, select_of}
use Rattle.qrcode_types.specs.Versions.{side}
use Rattle.qrcode_types.specs.declared.types.Color.{Color}
use Rattle.qrcode_types.specs.declared.types.Color.TheVariants.{Light}
use Rattle.qrcode_render.specs.Drawn.{drawn}
use Rattle.qrcode_sheets.specs.Eps.{eps_paint, eps_rect}
use Rattle.qrcode_render.specs.Layout.{Layout, layout, pixels_across, pixels_down}
use Rattle.qrcode_sheets.specs.Paths.{plain_frame, IsPathOf}
use Rattle.qrcode_sheets.specs.Pdf.{IsLayerOf}
use Rattle.qrcode_render.specs.Picture.{picture}
use Rattle.qrcode_png.specs.Image.{Image, Shade as Pixel, rgba}
use Rattle.qrcode_sheets.specs.Parts.{part_of}
use Rattle.qrcode_sheets.specs.Pasted.{shade_with}
use Rattle.qrcode_sheets.specs.Sheets.{Overlay, Shapes, Sheet, Shade, dark_shade, light_shade, eps_ink, per_metre, rgb, shade_bytes, shade_of}
use Rattle.qrcode_sheets.specs.declared.formats.Format.{Format}
use Rattle.qrcode_sheets.specs.declared.formats.Format.TheVariants.{Eps, Pdf, SvgPath}
use Rattle.qrcode_sheets.specs.declared.layers.PartInk.{PartInk}
use Rattle.qrcode_sheets.specs.declared.parts.CodePart.{CodePart}
use Rattle.qrcode_sheets.specs.declared.parts.CodePart.TheVariants.{Finder, Alignment, Timing, FormatWord, VersionWord, Data}

abbrev pub order : CodePart → ℕ  -- the number of a part, to compare parts
order Finder = 0
order Alignment = 1
order Timing = 2
order FormatWord = 3
order VersionWord = 4
order Data = 5

abbrev pub is_tone : Color → Color → Bool  -- two colours are the same
is_tone tone color = if is_dark tone then is_dark color else not (is_dark color)

-- the module at index i, in row order, gets this colour
abbrev pub is_painted : Sheet → PartInk → ℕ → Bool
is_painted t k i = is_tone k.tone (slice_index_or t.modules i Light) && order k.part == order (part_of t.version (i % side t.version) (i / side t.version))

-- the modules that get this colour as dark, and the others as light
unfoldable pub layer : Sheet → PartInk → List Color
layer t k = map (λ i. color_of (is_painted t k i)) (range_with_len 0 (length t.modules))

abbrev pub units : Format → ℕ → ℕ  -- the size of a module of n pixels, in the units that overlays are placed in: in SvgPath and Pdf a module is the unit
units SvgPath n = 1
units Pdf n = 1
units f n = n

-- where modules are, in the units that overlays are placed in
abbrev pub unit_layout : Format → Layout → Layout
unit_layout f at = layout at.count at.zone (units f at.across) (units f at.down)

-- text fills these modules with the colour and draws nothing else: PostScript, PDF operators or an SVG element
abbrev pub IsLayer : Format → Sheet → PartInk → List ℕ → Type 0
IsLayer Eps t k text = text ≡ drawn eps_rect (unit_layout Eps t.at) (layer t k) (eps_paint (eps_ink (shade_of k.ink)))
IsLayer Pdf t k text = IsLayerOf (rgb (shade_of k.ink)) (picture (unit_layout Pdf t.at) (layer t k)) text
IsLayer f t k text = IsPathOf [] plain_frame k.ink.name.now (codes "none") (picture (unit_layout f t.at) (layer t k)) text

-- text is a layer for each colour, one after the other
abbrev pub AreLayers : Format → Sheet → List PartInk → List ℕ → Type 0
AreLayers f t [] text = text ≡ []
AreLayers f t (k ∷ inks) text = (first : List ℕ) × (IsLayer f t k first × ((rest : List ℕ) × (AreLayers f t inks rest × (text ≡ first ++ rest))))

abbrev pub shapes_in : Overlay → List ℕ  -- the text of shapes
shapes_in (Shapes text) = text
shapes_in over = []

-- text is a layer for each colour of parts, and then the shapes that lie over all modules
abbrev pub AreOver : Format → Sheet → List ℕ → Type 0
AreOver f t text = (layers : List ℕ) × (AreLayers f t t.parts layers × (text ≡ layers ++ shapes_in t.over))

-- the colour of module i once this colour is drawn over `below`
abbrev pub shade_over : Sheet → ℕ → Shade → PartInk → Shade
shade_over t i below k = if is_painted t k i then shade_of k.ink else below

-- the colour of module i: the last of its parts' colours, or else that of dark or light modules
abbrev pub module_shade : Sheet → ℕ → Shade
module_shade t i = fold (shade_over t i) (select_of (slice_index_or t.modules i Light) (dark_shade t) (light_shade t)) t.parts

-- the value of the pixel in column x and row y: `inner` of its module's index, or `zone` in the quiet zone
abbrev pub pixel_in : {A : Type 0} → Layout → (ℕ → A) → A → ℕ → ℕ → A
pixel_in at inner zone x y =
    let column = x / at.across in
    let row = y / at.down in
    if nat_le at.zone column && nat_lt column (at.zone + at.count) && nat_le at.zone row && nat_lt row (at.zone + at.count)
    then inner ((row - at.zone) * at.count + (column - at.zone))
    else zone

-- the colours of all modules as bytes, row by row
unfoldable pub module_bytes : Sheet → List (List ℕ)
module_bytes t = map (λ i. shade_bytes (module_shade t i)) (range_with_len 0 (length t.modules))

-- the colour of the pixel at index i, as bytes: that of its module, or that of light modules in the quiet zone
abbrev pub pixel_bytes : Sheet → ℕ → List ℕ
pixel_bytes t i = shade_bytes (pixel_in t.at (module_shade t) (light_shade t) (i % pixels_across t.at) (i / pixels_across t.at))

-- the colour of the pixel at index i, with the sheet's picture over its own
abbrev pub pixel_shade : Sheet → ℕ → Pixel
pixel_shade t i = shade_with t.at t.over (i % pixels_across t.at) (i / pixels_across t.at) (rgba (pixel_bytes t i))

-- the colours of the first `count` pixels
unfoldable pub pixel_shades : Sheet → ℕ → List Pixel
pixel_shades t count = map (pixel_shade t) (range_with_len 0 count)

-- the picture in a PNG file in full colour
abbrev pub painted : Sheet → Image
painted t = record {
  across = pixels_across t.at;
  down = pixels_down t.at;
  pixels = pixel_shades t (pixels_down t.at * pixels_across t.at);
  density = option_map (λ n. (n, n)) (option_map per_metre t.dpi);
  has_faults = false;
}
