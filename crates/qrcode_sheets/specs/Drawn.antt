-- What each output format draws for a sheet.
use Rattle.std.specs.Prelude.{◌≡◌, ℕ, ◌==◌, ◌&&◌, ◌||◌, not, IsTrue, Bool, Some, true, false, List, [], ◌∷◌, ◌++◌, codes, encode_utf8, length, max, unwrap_or, if◌then◌else◌}
use Rattle.std.specs.Option.{option_map}
use Rattle.qrcode_sheets.specs.Eps.{eps_file}
use Rattle.qrcode_sheets.specs.Files.{pgm_file, pbm_file, ppm_file}
use Rattle.qrcode_render.specs.Layout.{modules_across}
use Rattle.qrcode_sheets.specs.Paths.{xml_head, IsPathIn}
use Rattle.qrcode_sheets.specs.Pdf.{IsPdfIn}
use Rattle.qrcode_render.specs.Picture.{picture}
use Rattle.qrcode_sheets.specs.Printers.{escpos_file, tspl_file_at, xbm_file}
use Rattle.qrcode_render.specs.Texts.{text_of, dense_text, raw_bytes}
use Rattle.qrcode_render.specs.Pic.{pic_text}
use Rattle.qrcode_render.specs.Svg.{svg_text}
use Rattle.qrcode_sheets.specs.Zpl.{IsZplOf}
use Rattle.qrcode_png.specs.Shown.{IsFileOf}
use Rattle.qrcode_png.specs.Image.{image_of}
use Rattle.qrcode_sheets.specs.Layers.{AreOver, painted}
use Rattle.qrcode_sheets.specs.Sheets.{Overlay, Nothing, Shapes, Pixels, Sheet, dark_of, light_of, eps_ink, per_metre, png_ink, rgb}
use Rattle.qrcode_sheets.specs.Terminal.{coloured_text}
use Rattle.qrcode_sheets.specs.Formats.{row}
use Rattle.qrcode_sheets.specs.declared.formats.Colours.{Colours}
use Rattle.qrcode_sheets.specs.declared.formats.Colours.TheVariants.{Fixed}
use Rattle.qrcode_sheets.specs.declared.formats.Format.{Format}
use Rattle.qrcode_sheets.specs.declared.formats.Format.TheVariants.{HalfBlocks, LightHalfBlocks, Terminal, Chars, Png, Svg, SvgPath, Eps, Pic, Pbm, Pgm, Grey, Pdf, Zpl, Tspl, EscPos, Xbm, Ppm, Ascii}
use Rattle.qrcode_sheets.specs.declared.formats.LogoForm.{LogoForm}
use Rattle.qrcode_sheets.specs.declared.formats.LogoForm.TheVariants as middle
use Rattle.qrcode_sheets.specs.declared.layers.PartInk.{PartInk}
use Rattle.qrcode_sheets.specs.declared.render.DrawError.{DrawError}
use Rattle.qrcode_sheets.specs.declared.render.DrawError.TheVariants.{NoParts, NoOverlay, OutOfMemory}

abbrev pub ended : Sheet → List ℕ → List ℕ  -- text, with a newline at the end if the sheet asks for one
ended t lines = if t.ends_lines then lines ++ codes "\n" else lines

-- half blocks; `dark` and `light` say whether they are drawn for dark and for light pixels
abbrev pub half_block_text : Sheet → Bool → Bool → List ℕ
half_block_text t dark light = dense_text (dark_of t dark light) (light_of t dark light) (picture t.at t.modules)

-- lines with these characters for dark and light pixels
abbrev pub char_text : Sheet → List ℕ → List ℕ → List ℕ
char_text t dark light = text_of (dark_of t dark light) (light_of t dark light) (picture t.at t.modules)

abbrev pub eps_text : Sheet → List ℕ → List ℕ  -- an EPS file with PostScript over the modules
eps_text t over =
    eps_file t.dots t.at t.modules (dark_of t (eps_ink t.dark) (eps_ink t.light)) (light_of t (eps_ink t.dark) (eps_ink t.light)) over

-- bytes are a file with shapes, and `over` over the modules: EPS; PDF with a title, and 72 pixels per inch if none are given; or SVG with one path, and
-- the size and title of the frame. A module is the unit of PDF's page and of SVG's viewBox
abbrev pub IsShapes : Format → Sheet → List ℕ → List ℕ → Type 0
IsShapes Eps t over bytes = bytes ≡ eps_text t over
IsShapes Pdf t over bytes =
    IsPdfIn (modules_across t.at) (modules_across t.at) (max (unwrap_or t.dots 72) 1) (dark_of t (rgb t.dark) (rgb t.light)) (light_of t (rgb t.dark) (rgb t.light)) (picture t.at t.modules) over t.frame.title bytes
IsShapes f t over bytes =
    IsPathIn (modules_across t.at) (modules_across t.at) xml_head t.frame (dark_of t t.dark.name t.light.name) (light_of t t.dark.name t.light.name) (picture t.at t.modules) over bytes

-- likewise, with the colours of parts and what lies over all modules
abbrev pub IsOver : Format → Sheet → List ℕ → Type 0
IsOver f t bytes = (over : List ℕ) × (AreOver f t over × IsShapes f t over bytes)

abbrev pub is_picture : Overlay → Bool
is_picture (Pixels window inset) = true
is_picture over = false

abbrev pub has_layers : Sheet → Bool  -- parts have their own colours, or a picture lies over the modules
has_layers t = not (length t.parts == 0) || is_picture t.over

-- a PNG file in full colour, or in two colours
abbrev pub IsPng : Bool → Sheet → List ℕ → Type 0
IsPng true t bytes = image_of bytes ≡ Some (painted t)
IsPng false t bytes = IsFileOf (picture t.at t.modules) (dark_of t (png_ink t.dark) (png_ink t.light)) (light_of t (png_ink t.dark) (png_ink t.light)) (option_map per_metre t.dpi) bytes

-- bytes are the file of a sheet in the format
abbrev pub IsSheetFile : Format → Sheet → List ℕ → Type 0
IsSheetFile HalfBlocks t bytes = bytes ≡ ended t (half_block_text t true false)
IsSheetFile LightHalfBlocks t bytes = bytes ≡ ended t (half_block_text t false true)
IsSheetFile Terminal t bytes = bytes ≡ coloured_text (half_block_text t true false)
IsSheetFile Chars t bytes = bytes ≡ ended t (char_text t (encode_utf8 0x2588) (encode_utf8 32))
IsSheetFile Ascii t bytes = bytes ≡ ended t (char_text t (codes "##") (codes "  "))
IsSheetFile Png t bytes = IsPng (has_layers t) t bytes
IsSheetFile Svg t bytes = bytes ≡ svg_text t.at t.modules (dark_of t t.dark.name t.light.name) (light_of t t.dark.name t.light.name)
IsSheetFile SvgPath t bytes = IsOver SvgPath t bytes
IsSheetFile Eps t bytes = IsOver Eps t bytes
IsSheetFile Pdf t bytes = IsOver Pdf t bytes
IsSheetFile Pic t bytes = bytes ≡ pic_text t.at t.modules
IsSheetFile Pbm t bytes = bytes ≡ pbm_file (dark_of t true false) (light_of t true false) (picture t.at t.modules)
IsSheetFile Pgm t bytes = bytes ≡ pgm_file (dark_of t 0 255) (light_of t 0 255) (picture t.at t.modules)
IsSheetFile Grey t bytes = bytes ≡ raw_bytes (dark_of t (0 ∷ []) (255 ∷ [])) (light_of t (0 ∷ []) (255 ∷ [])) (picture t.at t.modules)
IsSheetFile Ppm t bytes = bytes ≡ ppm_file (dark_of t (rgb t.dark) (rgb t.light)) (light_of t (rgb t.dark) (rgb t.light)) (picture t.at t.modules)
IsSheetFile Zpl t bytes = IsZplOf t.place (dark_of t true false) (light_of t true false) (picture t.at t.modules) bytes
IsSheetFile Tspl t bytes = bytes ≡ tspl_file_at t.place (dark_of t true false) (light_of t true false) (picture t.at t.modules)
IsSheetFile EscPos t bytes = bytes ≡ escpos_file (dark_of t true false) (light_of t true false) (picture t.at t.modules)
IsSheetFile Xbm t bytes = bytes ≡ xbm_file (dark_of t true false) (light_of t true false) (picture t.at t.modules)

abbrev pub are_own : Colours → Bool  -- parts may have colours of their own
are_own Fixed = false
are_own colours = true

abbrev pub takes_parts : Format → List PartInk → Bool  -- the format has colours of parts, or there are none
takes_parts f inks = length inks == 0 || are_own (row f).parts

abbrev pub lies_in : LogoForm → Overlay → Bool
lies_in m Nothing = true
lies_in middle.Element (Shapes text) = true
lies_in middle.Operators (Shapes text) = true
lies_in middle.Pixels (Pixels window inset) = true
lies_in m over = false

abbrev pub takes_overlay : Format → Overlay → Bool  -- the format has what lies over the modules
takes_overlay f over = lies_in (row f).middle over

abbrev pub IsDrawCause : Format → Sheet → DrawError → Type 0  -- why a sheet is not drawn
IsDrawCause f t NoParts = takes_parts f t.parts ≡ false
IsDrawCause f t NoOverlay = IsTrue (takes_parts f t.parts) × (takes_overlay f t.over ≡ false)
IsDrawCause f t OutOfMemory = IsTrue (takes_parts f t.parts && takes_overlay f t.over)
