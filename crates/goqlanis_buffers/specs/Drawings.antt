-- What the calls for C draw.
use Rattle.std.specs.Prelude.{◌≡◌, ℕ, ◌==◌, nat_le, ◌&&◌, Bool, true, false, List, IsTrue, Option, None, Some, map, if◌then◌else◌}
use Rattle.qrcode_render.specs.Layout.{layout}
use Rattle.qrcode_sheets.specs.Paths.{plain_frame}
use Rattle.goqlanis_buffers.specs.Shades.{colors_of}
use Rattle.goqlanis_request.specs.Drawings.{sized}
use Rattle.qrcode_sheets.specs.Drawn.{IsSheetFile}
use Rattle.qrcode_sheets.specs.Sheets.{Nothing, Overlay, Sheet}
use Rattle.qrcode_sheets.specs.declared.layers.PartInk.{PartInk}
use Rattle.qrcode_sheets.specs.Formats.{row}
use Rattle.qrcode_sheets.specs.declared.formats.Density.{Density}
use Rattle.qrcode_sheets.specs.declared.formats.Density.TheVariants.{Stored}
use Rattle.qrcode_sheets.specs.declared.formats.Format.{Format}
use Rattle.qrcode_sheets.specs.declared.formats.Format.TheVariants.{Png}
use Rattle.goqlanis_buffers.specs.Colours.{colour_shade, has_colours}
use Rattle.goqlanis_buffers.specs.Tints.{has_parts, have_tints, ink_paint, paints, version_for}
use Rattle.goqlanis_buffers.specs.declared.pictures.Drawing.{Drawing}

abbrev pub known : ℕ → Option ℕ  -- a number; none for 0
known n = if n == 0 then None else Some n

abbrev pub density : Density → ℕ → Option ℕ  -- the dots per inch that a PNG file states
density Stored dpi = known dpi
density d dpi = None

abbrev pub dots : Bool → ℕ → Option ℕ  -- the pixels of an inch in a format of exact sizes
dots true dpi = known dpi
dots false dpi = None

-- modules of a width as a drawing shows them, with these colours of parts and nothing over them
abbrev pub sheet : Format → List ℕ → ℕ → Drawing → List PartInk → Sheet
sheet f modules width d inks = record {
  modules = colors_of modules;
  at = layout width d.zone d.scale d.scale;
  dark = colour_shade d.dark;
  light = colour_shade d.light;
  is_inverted = false;
  dpi = density (row f).density d.dpi;
  ends_lines = false;
  dots = dots (row f).is_exact d.dpi;
  place = (0, 0);
  frame = sized (dots (row f).is_exact d.dpi) plain_frame;
  version = version_for width;
  parts = inks;
  over = Nothing;
}

abbrev pub most_dpi : Density → (is_exact : Bool) → ℕ  -- the most dots per inch: what a PNG file holds, and any number in formats of exact sizes
most_dpi Stored is_exact = 65535
most_dpi d true = 4294967295
most_dpi d false = 0

abbrev pub has_density : Format → ℕ → Bool  -- the format has these dots per inch, or they are 0
has_density f dpi = nat_le dpi (most_dpi (row f).density (row f).is_exact)

abbrev pub is_sayable : Format → Drawing → Bool  -- the format supports the colours and dots per inch
is_sayable f d = has_density f d.dpi && has_colours f d.dark d.light && have_tints f d

-- the bytes are the picture of modules of a width, with this on top, in a format that supports its colours and dots per inch; it is known which modules
-- belong to parts that have a colour of their own
pub record IsPictureOver (over : Overlay) (f : Format) (modules : List ℕ) (width : ℕ) (d : Drawing) (bytes : List ℕ) : Type 0 where
  pub inks : List PartInk
  pub sayable : IsTrue (is_sayable f d)
  pub known : IsTrue (has_parts width d)
  pub own : map ink_paint inks ≡ paints d
  pub shown : IsSheetFile f (record (sheet f modules width d inks) { over = over }) bytes

abbrev pub IsPictureIn : Format → List ℕ → ℕ → Drawing → List ℕ → Type 0  -- with nothing on top
IsPictureIn f modules width d bytes = IsPictureOver Nothing f modules width d bytes

-- the most pixels a side: four bytes of memory are taken for each in a PNG file in full colour
abbrev pub most_side : Format → Bool → ℕ
most_side Png false = 8192
most_side f _ = (row f).most

-- a picture in the format may have this many pixels a side; `bare` says that no part has a colour of its own
abbrev pub has_side : Format → Bool → ℕ → Bool
has_side f bare side = nat_le (row f).least side && nat_le side (most_side f bare)
