-- The area in the middle of a drawing, and what is in it.
use Rattle.std.specs.Prelude.{◌≡◌, ◌≢◌, ◌⊎◌, ℕ, ◌+◌, ◌*◌, ◌/◌, ◌%◌, ◌<◌, ◌≤◌, ◌&&◌, not, nat_le, nat_lt, Bool, false, List, [], ◌++◌, codes, decimal, if◌then◌else◌}
use Rattle.qrcode_types.specs.Versions.{side}
use Rattle.qrcode_types.specs.declared.types.Color.{Color}
use Rattle.qrcode_types.specs.declared.types.Version.{Version}
use Rattle.qrcode.specs.Code.{Code}
use Rattle.qrcode_damage.specs.Areas.{AgreesOutside}
use Rattle.qrcode_damage.specs.Covered.{IsLightInside}
use Rattle.qrcode_damage.specs.Rectangles.{only}
use Rattle.qrcode_damage.specs.declared.areas.Rectangle.{Rectangle}
use Rattle.qrcode_png.specs.Image.{Shade, grey_shade}
use Rattle.goqlanis_request.specs.Drawings.{sheet_for, unit_for, zone_for}
use Rattle.qrcode_sheets.specs.Drawn.{IsSheetFile, takes_overlay}
use Rattle.qrcode_sheets.specs.Sheets.{Overlay, Nothing as Bare, Shapes, Pixels as Picture}
use Rattle.qrcode_sheets.specs.Formats.{row}
use Rattle.qrcode_sheets.specs.declared.formats.LogoForm.TheVariants as middle
use Rattle.goqlanis_request.specs.Masks.{AreUnder}
use Rattle.qrcode_sheets.specs.declared.formats.Format.{Format}
use Rattle.qrcode_sheets.specs.declared.formats.Format.TheVariants.{Eps, Pdf}
use Rattle.goqlanis_request.specs.declared.overlays.Inside.{Inside}
use Rattle.goqlanis_request.specs.declared.overlays.Inside.TheVariants.{Nothing, Cross, Element, Pixels}
use Rattle.qrcode_sheets.specs.declared.pasting.Window.{Window}
use Rattle.goqlanis_request.specs.Places.{place_in, HasRoom}
use Rattle.qrcode_sheets.specs.declared.places.Region.{Region}
use Rattle.goqlanis_request.specs.declared.request.Request.{Request}

-- light are the modules of the symbol under the requested mask, with those of the area light
abbrev pub AreBeside : Request → Code → Rectangle → List Color → Type 0
AreBeside r code area light =
    (s : List Color) × (AreUnder r.mask code s × (AgreesOutside code.version (only area) s light × IsLightInside code.version (only area) light))

-- the Swiss cross of a bill covers an area with `size` modules along its side: the smallest odd number that is at least 7/46 of the symbol's side
pub record IsCrossSize (side size : ℕ) : Type 0 where
  pub odd : size % 2 ≡ 1
  pub at_least : 7 * side ≤ 46 * size
  pub least : (n : ℕ) → n % 2 ≡ 1 → 7 * side ≤ 46 * n → size ≤ n

-- the cross has `width` pixels along its side: 7/46 of the symbol's side in pixels, rounded to the nearest, halves up
pub record IsCrossWidth (side width : ℕ) : Type 0 where
  pub at_most : 46 * width ≤ 7 * side + 23
  pub at_least : 7 * side < 46 * width + 23

-- an `svg` element at a place; `rest` is everything after its position and size
abbrev pub svg_element : Region → List ℕ → List ℕ
svg_element p rest =
    codes "<svg x=\"" ++ (decimal p.left ++ (codes "\" y=\"" ++ (decimal p.top ++ (codes "\" width=\"" ++ (decimal p.width ++ (codes "\" height=\"" ++ (decimal p.height ++ (codes "\"" ++ rest))))))))

-- the cross in a format. `unit` is the size of a module, `side` the modules along the symbol's side, and `left` where the cross begins, in 1656ths of
-- a module. Its side is 252 * side of these.
abbrev pub cross_text : Format → ℕ → ℕ → ℕ → List ℕ
cross_text Eps unit side left =
    codes "gsave " ++ (decimal unit ++ (codes " 1656 div dup scale " ++ (decimal left ++ (codes " dup translate " ++ (decimal side
    ++ codes " dup scale\n1 setgray 0 0 252 252 rectfill 0 setgray 18 18 216 216 rectfill\n1 setgray 105 56 42 140 rectfill 56 105 140 42 rectfill grestore\n")))))
cross_text Pdf unit side left =
    codes "q .000603864734 0 0 .000603864734 0 0 cm " ++ (decimal side ++ (codes " 0 0 " ++ (decimal side ++ (codes " " ++ (decimal left ++ (codes " " ++ (decimal left
    ++ codes " cm\n1 g 0 0 252 252 re f 0 g 18 18 216 216 re f\n1 g 105 56 42 140 re 56 105 140 42 re f Q")))))))
cross_text f unit side left =
    codes "<g transform=\"scale(" ++ (decimal unit ++ (codes ") scale(.000603864734) translate(" ++ (decimal left ++ (codes " " ++ (decimal left ++ (codes ") scale(" ++ (decimal side
    ++ codes ")\" shape-rendering=\"auto\"><path fill=\"#fff\" d=\"M0 0h252v252H0z\"/><path d=\"M18 18h216v216H18z\"/><path fill=\"#fff\" d=\"M105 56h42v49h49v42h-49v49h-42v-49H56v-42h49z\"/></g>")))))))

-- the cross in the middle of a drawing: 252 of 1656 parts is 7 of 46, which leaves 702 on either side
abbrev pub cross_for : Request → Version → List ℕ
cross_for r v = cross_text r.format (unit_for r v) (side v) (1656 * zone_for r v + 702 * side v)

abbrev pub window_of : Rectangle → Window  -- the area as a window of a picture
window_of area = record { left = area.left; top = area.top; width = area.width; height = area.height }

-- what is in the area as an overlay, with this text for shapes
abbrev pub overlay_with : Rectangle → Inside → List ℕ → Overlay
overlay_with area Nothing text = Bare
overlay_with area (Pixels n) text = Picture (window_of area) n
overlay_with area inside text = Shapes text

-- what is drawn on top for what is in the area
abbrev pub overlay_for : Request → Version → Rectangle → Inside → Overlay
overlay_for r v area Nothing = Bare
overlay_for r v area Cross = Shapes (cross_for r v)
overlay_for r v area (Element margin rest) = Shapes (svg_element (place_in r v area margin) rest.now)
overlay_for r v area (Pixels n) = Picture (window_of area) n

-- what is in the area has no room there, or not in the format: an `svg` element is for SVG alone
abbrev pub LacksRoom : Format → Version → Rectangle → Inside → Type 0
LacksRoom f v area Nothing = ⊥
LacksRoom f v area Cross = takes_overlay f (Shapes []) ≡ false
LacksRoom f v area (Element margin rest) = ((row f).middle ≢ middle.Element) ⊎ (¬ HasRoom (side v) area margin)
LacksRoom f v area (Pixels n) = takes_overlay f (Picture (window_of area) n) ≡ false

-- bytes draw the symbol as requested, with the modules of the area light and what is in it on top of everything
abbrev pub IsShownWith : Request → Code → Rectangle → Inside → List ℕ → Type 0
IsShownWith r code area inside bytes =
    (light : List Color) × (AreBeside r code area light
    × IsSheetFile r.format (sheet_for r code.version light (overlay_for r code.version area inside)) bytes)

abbrev pub lies_between : ℕ → ℕ → ℕ → Bool  -- n is at least `from` and below `to`
lies_between from to n = nat_le from n && nat_lt n to

abbrev pub is_in_bar : ℕ → ℕ → Bool  -- the cell is in the upright bar of the white cross; with x and y exchanged, in the other bar
is_in_bar x y = lies_between 105 147 x && lies_between 56 196 y

-- the cell of the Swiss cross of a bill, on a grid of 252 by 252, is black: inside the white frame, and in neither bar of the white cross
abbrev pub is_black_unit : ℕ → ℕ → Bool
is_black_unit x y = lies_between 18 234 x && lies_between 18 234 y && not (is_in_bar x y) && not (is_in_bar y x)

abbrev pub cross_shade : ℕ → Shade  -- the colour of a cell, by its index in row order
cross_shade i = grey_shade (if is_black_unit (i % 252) (i / 252) then 0 else 1)
