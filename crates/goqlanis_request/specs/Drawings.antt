-- How a request draws a symbol.
use Rattle.std.specs.Prelude.{ℕ, ◌+◌, ◌*◌, ◌/◌, List, Option, None, Some, true, max, unwrap_or, if◌then◌else◌}
use Rattle.std.specs.Option.{option_or}
use Rattle.qrcode_types.specs.Versions.{side}
use Rattle.qrcode_types.specs.declared.types.Color.{Color}
use Rattle.qrcode_types.specs.declared.types.Version.{Version}
use Rattle.qrcode_render.specs.Layout.{layout}
use Rattle.qrcode_sheets.specs.Paths.{Frame, frame_of}
use Rattle.qrcode_sheets.specs.declared.svg_path.Size.TheVariants.{Dots}
use Rattle.qrcode.specs.Code.{Code}
use Rattle.qrcode.specs.Pictures.{quiet_zone}
use Rattle.qrcode_sheets.specs.Drawn.{IsSheetFile}
use Rattle.qrcode_sheets.specs.Layers.{units}
use Rattle.goqlanis_request.specs.Masks.{AreUnder}
use Rattle.qrcode_sheets.specs.Sheets.{Nothing, Overlay, Sheet, shade_of}
use Rattle.goqlanis_request.specs.declared.request.Extent.{Extent}
use Rattle.goqlanis_request.specs.declared.request.Extent.TheVariants.{Module, Side, Exact}
use Rattle.goqlanis_request.specs.declared.request.Request.{Request}

abbrev pub zone_for : Request → Version → ℕ  -- the width of the quiet zone in modules: the requested one, or the standard's
zone_for r v = unwrap_or r.zone (quiet_zone v)

-- the pixels of a module: those requested, or as many as fit in the requested side, which has this many modules; of an exact size, its count
abbrev pub scale_of : Extent → ℕ → ℕ
scale_of (Module pixels) modules = pixels
scale_of (Side pixels length) modules = pixels / modules
scale_of (Exact length) modules = length.count

abbrev pub scale_for : Request → Version → ℕ
scale_for r v = scale_of r.extent (side v + 2 * zone_for r v)

-- the size of a module, in the units that overlays are placed in
abbrev pub unit_for : Request → Version → ℕ
unit_for r v = units r.format (max (scale_for r v) 1)

-- the pixels per inch, of an exact size: its dots per inch, times the modules of the whole side if it is that of the side
abbrev pub dots_of : Extent → ℕ → Option ℕ
dots_of (Module pixels) modules = None
dots_of (Side pixels length) modules = None
dots_of (Exact length) modules = Some (if length.is_side then length.dots * modules else length.dots)

abbrev pub dots_for : Request → Version → Option ℕ
dots_for r v = dots_of r.extent (side v + 2 * zone_for r v)

-- a frame with its size set by the pixels per inch, if they are given
abbrev pub sized : Option ℕ → Frame → Frame
sized None f = f
sized (Some dots) f = record f { size = Dots dots }

-- the sheet for these modules of a symbol, inside the quiet zone, with `over` on top. A module has at least one pixel a side; text ends with a newline
abbrev pub sheet_for : Request → Version → List Color → Overlay → Sheet
sheet_for r v s over = record {
  modules = s;
  at = layout (side v) (zone_for r v) (max (scale_for r v) 1) (max (scale_for r v) 1);
  dark = shade_of r.dark;
  light = shade_of r.light;
  is_inverted = r.is_inverted;
  dpi = r.dpi;
  ends_lines = true;
  dots = option_or (dots_for r v) r.dpi;
  place = r.place;
  frame = sized (dots_for r v) (frame_of r.frame);
  version = v;
  parts = r.parts.now;
  over = over;
}

-- the bytes draw the symbol as requested, under the requested mask
abbrev pub IsShownIn : Request → Code → List ℕ → Type 0
IsShownIn r code bytes = (s : List Color) × (AreUnder r.mask code s × IsSheetFile r.format (sheet_for r code.version s Nothing) bytes)
