-- The text of Encapsulated PostScript.
use Rattle.std.specs.Prelude.{ℕ, zero, suc, Option, None, Some, ◌+◌, ◌-◌, ◌*◌, ◌/◌, ◌==◌, ◌&&◌, Bool, if◌then◌else◌, List, ◌++◌, codes, decimal}
use Rattle.qrcode_types.specs.declared.types.Color.{Color}
use Rattle.qrcode_sheets.specs.declared.eps.Color as eps
use Rattle.qrcode_render.specs.Drawn.{drawn}
use Rattle.qrcode_render.specs.Layout.{Layout, pixels_across, pixels_down}
use Rattle.qrcode_sheets.specs.Paths.{thousandths}

-- whether red, green and blue are equal
abbrev pub is_grey : eps.Color → Bool
is_grey p = p.red == p.green && p.green == p.blue

-- sets the colour of what follows; a grey is set as one, so that printers need only black ink
unfoldable pub eps_paint : eps.Color → List ℕ
eps_paint p =
    if is_grey p then decimal p.red ++ codes " 255 div setgray\n"
    else decimal p.red ++ (codes " 255 div " ++ (decimal p.green ++ (codes " 255 div " ++ (decimal p.blue ++ codes " 255 div setrgbcolor\n"))))

-- the header of a picture of w by h pixels, each a point: its lower left corner is at 0 0
abbrev pub eps_head : ℕ → ℕ → List ℕ
eps_head w h =
    codes "%!PS-Adobe-3.0 EPSF-3.0\n%%BoundingBox: 0 0 " ++ (decimal w ++ (codes " " ++ (decimal h ++ codes "\n%%LanguageLevel: 2\n%%EndComments\n")))

-- fills a rectangle, given by its corner next to the origin and its sides
abbrev pub eps_box : ℕ → ℕ → ℕ → ℕ → List ℕ
eps_box left top width height =
    decimal left ++ (codes " " ++ (decimal top ++ (codes " " ++ (decimal width ++ (codes " " ++ (decimal height ++ codes " rectfill\n"))))))

-- moves the origin to the upper left corner, so that rows count from the top
abbrev pub eps_turn : ℕ → List ℕ
eps_turn h = codes "0 " ++ (decimal h ++ codes " translate 1 -1 scale\n")

-- fills the light background, from the lower left corner on
abbrev pub eps_ground : ℕ → ℕ → List ℕ
eps_ground w h = codes "0 0 " ++ (decimal w ++ (codes " " ++ (decimal h ++ codes " rectfill\n")))

-- the text before the first dark rectangle: the header and the light background
abbrev pub eps_start : ℕ → ℕ → eps.Color → eps.Color → List ℕ
eps_start w h dark light = eps_head w h ++ (eps_paint light ++ (eps_ground w h ++ (eps_turn h ++ eps_paint dark)))

-- n pixels in points (1/72 of an inch), rounded up, with `dots` pixels to an inch
abbrev pub begun_points : ℕ → ℕ → ℕ
begun_points dots n = (72 * n + dots - 1) / dots

-- the lines of the header that state the picture's size in points: rounded up to whole points, and to thousandths of one
unfoldable pub eps_boxes : ℕ → ℕ → ℕ → List ℕ
eps_boxes dots w h =
    codes "%!PS-Adobe-3.0 EPSF-3.0\n%%BoundingBox: 0 0 " ++ (decimal (begun_points dots w) ++ (codes " " ++ (decimal (begun_points dots h)
    ++ (codes "\n%%HiResBoundingBox: 0 0 " ++ (thousandths (begun_points dots (1000 * w)) ++ (codes " " ++ (thousandths (begun_points dots (1000 * h)) ++ codes "\n")))))))

-- the header, and the size of a pixel
abbrev pub eps_sized_head : ℕ → ℕ → ℕ → List ℕ
eps_sized_head dots w h = eps_boxes dots w h ++ (codes "%%LanguageLevel: 2\n%%EndComments\n72 " ++ (decimal dots ++ codes " div dup scale\n"))

-- the text before the first dark rectangle, with `dots` pixels to an inch
abbrev pub eps_sized_start : ℕ → ℕ → ℕ → eps.Color → eps.Color → List ℕ
eps_sized_start dots w h dark light = eps_sized_head dots w h ++ (eps_paint light ++ (eps_ground w h ++ (eps_turn h ++ eps_paint dark)))

-- the text followed by a dark rectangle
abbrev pub eps_rect : ℕ → ℕ → ℕ → ℕ → List ℕ → List ℕ
eps_rect left top width height text = text ++ eps_box left top width height

-- the text after the last dark rectangle
abbrev pub eps_end : List ℕ
eps_end = codes "showpage\n%%EOF\n"

-- the text before the first dark rectangle: a pixel is a point, unless pixels to an inch are given
abbrev pub eps_front : Option ℕ → ℕ → ℕ → eps.Color → eps.Color → List ℕ
eps_front None = eps_start
eps_front (Some zero) = eps_start
eps_front (Some (suc n)) = eps_sized_start (suc n)

-- the picture of modules in a dark and a light colour, with these pixels to an inch, if given, and with PostScript over the modules
abbrev pub eps_file : Option ℕ → Layout → List Color → eps.Color → eps.Color → List ℕ → List ℕ
eps_file dots at content dark light over = drawn eps_rect at content (eps_front dots (pixels_across at) (pixels_down at) dark light) ++ (over ++ eps_end)
