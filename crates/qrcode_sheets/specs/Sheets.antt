-- What is drawn: modules, their colours and sizes, and what lies over them.
use Rattle.std.specs.Prelude.{ℕ, ◌+◌, ◌*◌, ◌/◌, Bool, List, [], ◌∷◌, Option, if◌then◌else◌}
use Rattle.qrcode_types.specs.declared.types.Color.{Color}
use Rattle.qrcode_types.specs.declared.types.Version.{Version}
use Rattle.qrcode_render.specs.Layout.{Layout, layout}
use Rattle.qrcode_sheets.specs.Paths.{Frame, frame_of}
use Rattle.qrcode_render.specs.Setting.{Setting}
use Rattle.qrcode_sheets.specs.declared.eps.Color as eps
use Rattle.qrcode_png.specs.declared.picture.Color as png
use Rattle.qrcode_sheets.specs.declared.layers.PartInk.{PartInk}
use Rattle.qrcode_sheets.specs.declared.pasting.Inset.{Inset}
use Rattle.qrcode_sheets.specs.declared.pasting.Window.{Window}
use Rattle.qrcode_sheets.specs.declared.sheet.Ink.{Ink}
use Rattle.qrcode_sheets.specs.declared.sheet.Overlay as over
use Rattle.qrcode_sheets.specs.declared.sheet.Overlay.TheVariants as lies
use Rattle.qrcode_sheets.specs.declared.sheet.Sheet as lent

-- a colour: its name in SVG; red, green and blue; and its opacity in PNG
pub record Shade : Type 0 where
  pub name : List ℕ
  pub red : ℕ
  pub green : ℕ
  pub blue : ℕ
  pub opacity : ℕ

abbrev pub shade_of : Ink → Shade
shade_of c = record { name = c.name.now; red = c.red; green = c.green; blue = c.blue; opacity = c.opacity }

-- what lies over all modules: nothing; SVG elements, PostScript or PDF operators; or a picture in a window
pub data Overlay : Type 0 where
  Nothing : Overlay
  Shapes : (text : List ℕ) → Overlay
  Pixels : (window : Window) (inset : Inset) → Overlay

abbrev pub overlay_of : over.Overlay → Overlay
overlay_of lies.Nothing = Nothing
overlay_of (lies.Shapes text) = Shapes text.now
overlay_of (lies.Pixels window inset) = Pixels window inset

-- modules, where they are, their colours, whether these are exchanged, the dots per inch in PNG, and whether text ends with a newline. In formats that
-- have these: the pixels per inch in EPS and PDF; the position on a label; the size, title and the like of an SVG file with one path; the version, by
-- which modules belong to parts; the colours of parts, of which the last for a module counts; and what lies over all modules
pub record Sheet : Type 0 where
  pub modules : List Color
  pub at : Layout
  pub dark : Shade
  pub light : Shade
  pub is_inverted : Bool
  pub dpi : Option ℕ
  pub ends_lines : Bool
  pub dots : Option ℕ
  pub place : ℕ × ℕ
  pub frame : Frame
  pub version : Version
  pub parts : List PartInk
  pub over : Overlay

abbrev pub sheet_of : lent.Sheet → Sheet
sheet_of p = record {
  modules = p.modules.now;
  at = layout p.width p.zone p.scale p.scale;
  dark = shade_of p.dark;
  light = shade_of p.light;
  is_inverted = p.is_inverted;
  dpi = p.dpi;
  ends_lines = p.ends_lines;
  dots = p.dots;
  place = p.place;
  frame = frame_of p.frame;
  version = p.version;
  parts = p.parts.now;
  over = overlay_of p.over;
}

-- the value for dark modules: one of these two, which are exchanged if the sheet is inverted
abbrev pub dark_of : {A : Type 0} → Sheet → A → A → A
dark_of t dark light = if t.is_inverted then light else dark

abbrev pub light_of : {A : Type 0} → Sheet → A → A → A  -- the value for light modules, likewise
light_of t dark light = if t.is_inverted then dark else light

abbrev pub dark_shade : Sheet → Shade  -- the colour of dark modules
dark_shade t = dark_of t t.dark t.light

abbrev pub light_shade : Sheet → Shade  -- the colour of light modules and of the quiet zone
light_shade t = light_of t t.dark t.light

-- the setting of a renderer for modules in place of a sheet's, each of n pixels, with these values for dark and light ones
abbrev pub setting_in : {P : Type 0} → lent.Sheet → List Color → ℕ → P → P → Setting P
setting_in p modules n dark light = record {
  content = modules;
  count = p.width;
  zone = p.zone;
  across = n;
  down = n;
  dark = dark;
  light = light;
  whole_zone = p.zone;
}

-- the setting of a sheet's renderer, with these values for dark and light modules, exchanged if it is inverted
abbrev pub setting_of : {P : Type 0} → lent.Sheet → P → P → Setting P
setting_of p dark light = setting_in p p.modules.now p.scale (dark_of (sheet_of p) dark light) (light_of (sheet_of p) dark light)

abbrev pub eps_ink : Shade → eps.Color  -- the colour for EPS
eps_ink c = record { red = c.red; green = c.green; blue = c.blue }

abbrev pub png_ink : Shade → png.Color  -- the colour for PNG
png_ink c = record { 0 = c.red ∷ c.green ∷ c.blue ∷ c.opacity ∷ [] }

abbrev pub rgb : Shade → List ℕ  -- red, green and blue
rgb c = c.red ∷ c.green ∷ c.blue ∷ []

abbrev pub shade_bytes : Shade → List ℕ  -- red, green, blue and opacity
shade_bytes c = c.red ∷ c.green ∷ c.blue ∷ c.opacity ∷ []

abbrev pub per_metre : ℕ → ℕ  -- dots per inch as dots per metre, rounded to the nearest: an inch is 0.0254 metres
per_metre dpi = (10000 * dpi + 127) / 254
