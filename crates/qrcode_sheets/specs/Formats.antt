-- The output formats, and what is known of each.
use Rattle.std.specs.Prelude.{ℕ, ◌==◌, Bool, true, false, List, [], ◌∷◌, Option, Some, None, codes, if◌then◌else◌}
use Rattle.std.specs.Option.{option_map}
use Rattle.std.specs.Str.{str_eq_ignore_ascii_case}
use Rattle.qrcode_sheets.specs.declared.formats.Colours.{Colours}
use Rattle.qrcode_sheets.specs.declared.formats.Colours.TheVariants as colours
use Rattle.qrcode_sheets.specs.declared.formats.Density.{Density}
use Rattle.qrcode_sheets.specs.declared.formats.Density.TheVariants as density
use Rattle.qrcode_sheets.specs.declared.formats.Format.{Format}
use Rattle.qrcode_sheets.specs.declared.formats.Format.TheVariants.{HalfBlocks, LightHalfBlocks, Terminal, Chars, Png, Svg, SvgPath, Eps, Pic, Pbm, Pgm, Grey, Pdf, Zpl, Tspl, EscPos, Xbm, Ppm, Ascii}
use Rattle.qrcode_sheets.specs.declared.formats.LogoForm.{LogoForm}
use Rattle.qrcode_sheets.specs.declared.formats.LogoForm.TheVariants as middle
use Rattle.qrcode_sheets.specs.declared.formats.FormatRow as code

-- what is known of a format; the fields are those of the code
pub record FormatRow : Type 0 where
  pub format : Format
  pub name : Option (List ℕ)
  pub ending : Option (List ℕ)
  pub number : Option ℕ
  pub is_text : Bool
  pub is_series : Bool
  pub pixels : ℕ
  pub least : ℕ
  pub most : ℕ
  pub is_whole : Bool
  pub density : Density
  pub is_exact : Bool
  pub colours : Colours
  pub parts : Colours
  pub middle : LogoForm
  pub has_place : Bool

abbrev pub lines : Format → FormatRow  -- lines of text: a character, or half of one, for each pixel
lines f = record {
  format = f;
  name = None;
  ending = None;
  number = None;
  is_text = true;
  is_series = true;
  pixels = 1;
  least = 0;
  most = 4096;
  is_whole = false;
  density = density.Nothing;
  is_exact = false;
  colours = colours.Fixed;
  parts = colours.Fixed;
  middle = middle.Light;
  has_place = false;
}

abbrev pub pixels : Format → FormatRow  -- black and white pixels, in a binary file
pixels f = record (lines f) { is_text = false; is_series = false; pixels = 8; most = 0xffffffff; is_whole = true; density = density.Sizes }

abbrev pub shapes : Format → FormatRow  -- shapes in a text file
shapes f = record (pixels f) {
  is_text = true;
  is_whole = false;
  density = density.Unit;
  is_exact = true;
  colours = colours.Opaque;
  parts = colours.Opaque;
  middle = middle.Operators;
}

abbrev pub row : Format → FormatRow  -- what is known of each format
row HalfBlocks = record (lines HalfBlocks) { name = Some (codes "half-blocks"); ending = Some (codes "txt"); number = Some 0 }
row LightHalfBlocks = record (lines LightHalfBlocks) { number = Some 1 }
row Terminal = record (lines Terminal) { name = Some (codes "terminal") }
row Chars = record (lines Chars) { name = Some (codes "text") }
row Png = record (pixels Png) {
  name = Some (codes "png");
  ending = Some (codes "png");
  number = Some 5;
  least = 1;
  most = 65535;
  is_whole = false;
  density = density.Stored;
  colours = colours.Any;
  parts = colours.Any;
  middle = middle.Pixels;
}
row Svg = record (pixels Svg) { number = Some 2; is_text = true; is_whole = false; density = density.Nothing; colours = colours.Any }
row SvgPath = record (shapes SvgPath) {
  name = Some (codes "svg");
  ending = Some (codes "svg");
  number = Some 8;
  density = density.Nothing;
  colours = colours.Any;
  middle = middle.Element;
}
row Eps = record (shapes Eps) { name = Some (codes "eps"); ending = Some (codes "eps"); number = Some 6 }
row Pic = record (lines Pic) { name = Some (codes "pic"); ending = Some (codes "pic"); number = Some 3; is_series = false; most = 0xffffffff }
row Pbm = record (pixels Pbm) { name = Some (codes "pbm"); ending = Some (codes "pbm"); number = Some 7 }
row Pgm = record (pixels Pgm) { name = Some (codes "pgm"); ending = Some (codes "pgm"); number = Some 9 }
row Grey = record (pixels Grey) { number = Some 4 }
row Pdf = record (shapes Pdf) { name = Some (codes "pdf"); ending = Some (codes "pdf"); number = Some 10; is_text = false }
row Zpl = record (pixels Zpl) {
  name = Some (codes "zpl");
  ending = Some (codes "zpl");
  number = Some 11;
  is_text = true;
  is_series = true;
  is_whole = false;
  has_place = true;
}
row Tspl = record (pixels Tspl) { name = Some (codes "tspl"); ending = Some (codes "tspl"); number = Some 12; is_series = true; has_place = true }
row EscPos = record (pixels EscPos) { name = Some (codes "escpos"); ending = Some (codes "escpos"); number = Some 13; is_series = true; most = 65535 }
row Xbm = record (pixels Xbm) { name = Some (codes "xbm"); ending = Some (codes "xbm"); number = Some 14; is_text = true }
row Ppm = record (pixels Ppm) { name = Some (codes "ppm"); ending = Some (codes "ppm"); number = Some 15; colours = colours.Opaque }
row Ascii = record (lines Ascii) { name = Some (codes "ascii"); number = Some 16 }

-- the formats, in the order of the program's help
unfoldable pub formats : List FormatRow
formats =
    row HalfBlocks ∷ row LightHalfBlocks ∷ row Terminal ∷ row Chars ∷ row Png ∷ row Svg ∷ row SvgPath ∷ row Eps ∷ row Pic ∷ row Pbm ∷
    row Pgm ∷ row Grey ∷ row Pdf ∷ row Zpl ∷ row Tspl ∷ row EscPos ∷ row Xbm ∷ row Ppm ∷ row Ascii ∷ []

abbrev pub format_row : code.FormatRow → FormatRow  -- a row of the code's table
format_row r = record {
  format = r.format;
  name = option_map (λ text. text.now) r.name;
  ending = option_map (λ text. text.now) r.ending;
  number = r.number;
  is_text = r.is_text;
  is_series = r.is_series;
  pixels = r.pixels;
  least = r.least;
  most = r.most;
  is_whole = r.is_whole;
  density = r.density;
  is_exact = r.is_exact;
  colours = r.colours;
  parts = r.parts;
  middle = r.middle;
  has_place = r.has_place;
}

abbrev pub is_known : Option (List ℕ) → List ℕ → Bool  -- name is the known one, ignoring case
is_known None name = false
is_known (Some known) name = str_eq_ignore_ascii_case known name

abbrev pub is_known_number : Option ℕ → ℕ → Bool  -- n is the known number
is_known_number None n = false
is_known_number (Some known) n = known == n

abbrev pub named_among : List FormatRow → List ℕ → Option Format  -- the first format with this name
named_among [] name = None
named_among (row ∷ rows) name = if is_known row.name name then Some row.format else named_among rows name

abbrev pub ending_among : List FormatRow → List ℕ → Option Format  -- the first format with this file extension
ending_among [] ending = None
ending_among (row ∷ rows) ending = if is_known row.ending ending then Some row.format else ending_among rows ending

abbrev pub numbered_among : List FormatRow → ℕ → Option Format  -- the first format with this number in C
numbered_among [] n = None
numbered_among (row ∷ rows) n = if is_known_number row.number n then Some row.format else numbered_among rows n

abbrev pub format_named : List ℕ → Option Format  -- the format with this name
format_named name = named_among formats name

abbrev pub format_of_ending : List ℕ → Option Format  -- the format with this file extension
format_of_ending ending = ending_among formats ending

abbrev pub format_numbered : ℕ → Option Format  -- the format with this number in the C library
format_numbered n = numbered_among formats n
