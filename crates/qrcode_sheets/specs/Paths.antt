-- SVG with one path, whose subpaths are the runs of dark modules in each row.
use Rattle.std.specs.Prelude.{◌≡◌, ℕ, ◌+◌, ◌-◌, ◌*◌, ◌/◌, ◌%◌, ◌==◌, ◌<◌, IsTrue, nat_le, nat_lt, ◌&&◌, ◌||◌, Bool, false, List, [], ◌∷◌, ◌++◌, codes, decimal, length, map, flat_map, max, if◌then◌else◌}
use Rattle.std.specs.List.{range_with_len}
use Rattle.qrcode_render.specs.Bitmap.{Bitmap}
use Rattle.qrcode_sheets.specs.declared.paths.Pen.{Pen}
use Rattle.qrcode_sheets.specs.declared.runs.Run.{Run}
use Rattle.qrcode_sheets.specs.declared.svg_path.Frame as code
use Rattle.qrcode_sheets.specs.declared.svg_path.Size.{Size}
use Rattle.qrcode_sheets.specs.declared.svg_path.Size.TheVariants.{Pixels, Free, Dots}

-- a relative coordinate: the distance between two numbers, after `forward`, or after `back` if the second is smaller
abbrev pub step_text : List ℕ → List ℕ → ℕ → ℕ → List ℕ
step_text forward back from to = if nat_le from to then forward ++ decimal (to - from) else back ++ decimal (from - to)

-- the subpath of a run, drawn from the pen's position: a move to the upper left corner of the run ("m", relative; a
-- space or a minus sign comes before the second number), then lines to the right, down by one and to the left ("h",
-- "v", relative). Filling closes it by a line up
abbrev pub run_text : Pen → Run → List ℕ
run_text pen r =
    step_text (codes "m") (codes "m-") pen.column r.left ++ (step_text (codes " ") (codes "-") pen.row r.top
    ++ (codes "h" ++ (decimal r.width ++ (codes "v1h-" ++ decimal r.width))))

-- the pen's position after the subpath of a run: its lower left corner, where the last line ended
abbrev pub pen_after : Run → Pen
pen_after r = record { column = r.left; row = r.top + 1 }

-- the path of runs, drawn from the pen's position
abbrev pub path_from : Pen → List Run → List ℕ
path_from pen [] = []
path_from pen (r ∷ runs) = run_text pen r ++ path_from (pen_after r) runs

-- the pen's position at the start
abbrev pub start : Pen
start = record { column = 0; row = 0 }

-- the path of runs
abbrev pub path_text : List Run → List ℕ
path_text runs = path_from start runs

-- whether the subpath of a run fills the cell in a column and a row
abbrev pub covers : Run → ℕ → ℕ → Bool
covers r column row = nat_le r.left column && nat_lt column (r.left + r.width) && (r.top == row)

-- whether a path fills the cell in a column and a row: one of its subpaths does
abbrev pub is_filled : List Run → ℕ → ℕ → Bool
is_filled [] column row = false
is_filled (r ∷ runs) column row = covers r column row || is_filled runs column row

-- a byte of an attribute's value: quotation marks, less-than and greater-than signs and ampersands become entities
abbrev pub attribute_byte : ℕ → List ℕ
attribute_byte b = if b == 34 then codes "&quot;" else (if b == 60 then codes "&lt;" else (if b == 62 then codes "&gt;" else (if b == 38 then codes "&amp;" else b ∷ [])))

-- a text, escaped for an attribute's value or between tags
unfoldable pub attribute : List ℕ → List ℕ
attribute text = flat_map attribute_byte text

-- a text, escaped, between two others, or nothing if it is empty
abbrev pub between : List ℕ → List ℕ → List ℕ → List ℕ
between before text after = if length text == 0 then [] else before ++ (attribute text ++ after)

-- the attributes and texts of the element, each of which may be empty, and its size
pub record Frame : Type 0 where
  pub id : List ℕ
  pub class : List ℕ
  pub title : List ℕ
  pub description : List ℕ
  pub size : Size

abbrev pub frame_of : code.Frame → Frame
frame_of f = record { id = f.id.now; class = f.class.now; title = f.title.now; description = f.description.now; size = f.size }

-- n thousandths, as a number with three decimals
abbrev pub thousandths : ℕ → List ℕ
thousandths n = decimal (n / 1000) ++ (codes "." ++ (decimal (n / 100 % 10) ++ (decimal (n / 10 % 10) ++ decimal (n % 10))))

-- the length of a side of n pixels: in pixels, or in millimetres with `dots` pixels to an inch of 25.4 mm; 0 dots count as 1
abbrev pub side_text : Size → ℕ → List ℕ
side_text (Dots dots) n = thousandths (n * 25400 / max dots 1) ++ codes "mm"
side_text s n = decimal n

-- the attributes of width and height, if the size sets them
abbrev pub size_text : Size → ℕ → ℕ → List ℕ
size_text Free w h = []
size_text s w h = codes " width=\"" ++ (side_text s w ++ (codes "\" height=\"" ++ (side_text s h ++ codes "\"")))

-- what follows the numbers of the `viewBox`: the picture is stretched to the width and height, or keeps its shape if these are not set
abbrev pub box_end : Size → List ℕ
box_end Free = codes "\" shape-rendering=\"crispEdges\">"
box_end s = codes "\" preserveAspectRatio=\"none\" shape-rendering=\"crispEdges\">"

-- the `viewBox`, in cells
abbrev pub box_text : Size → ℕ → ℕ → List ℕ
box_text s columns rows = codes " viewBox=\"0 0 " ++ (decimal columns ++ (codes " " ++ (decimal rows ++ box_end s)))

-- the start tag, the title and the description
abbrev pub frame_text : Frame → ℕ → ℕ → ℕ → ℕ → List ℕ
frame_text f w h columns rows =
    codes "<svg xmlns=\"http://www.w3.org/2000/svg\" version=\"1.1\""
    ++ (between (codes " id=\"") f.id (codes "\"") ++ (between (codes " class=\"") f.class (codes "\"") ++ (size_text f.size w h ++ (box_text f.size columns rows
    ++ (between (codes "<title>") f.title (codes "</title>") ++ between (codes "<desc>") f.description (codes "</desc>"))))))

-- a frame without texts, in which a pixel of the picture is a CSS pixel
abbrev pub plain_frame : Frame
plain_frame = record { id = []; class = []; title = []; description = []; size = Pixels }

-- the background, up to its colour
abbrev pub path_ground : ℕ → ℕ → List ℕ
path_ground columns rows =
    codes "<rect width=\"" ++ (decimal columns ++ (codes "\" height=\"" ++ (decimal rows ++ codes "\" fill=\"")))

-- the element up to its end tag: the frame, the light background, and the dark path
abbrev pub path_front : Frame → ℕ → ℕ → ℕ → ℕ → List ℕ → List ℕ → List Run → List ℕ
path_front frame w h columns rows dark light runs =
    frame_text frame w h columns rows
    ++ (path_ground columns rows ++ (light ++ (codes "\"/><path fill=\"" ++ (dark ++ (codes "\" stroke=\"none\" d=\"" ++ (path_text runs ++ codes "\"/>"))))))

abbrev pub path_end : List ℕ
path_end = codes "</svg>"

-- the XML declaration of a file
abbrev pub xml_head : List ℕ
xml_head = codes "<?xml version=\"1.0\" standalone=\"yes\"?>"

-- the dark pixels of a bitmap are those of the cells that runs fill, each of which is `across` by `down` pixels, in this many columns and rows; the
-- runs fill no other cell
pub record AreRunsOf (columns rows across down : ℕ) (b : Bitmap) (runs : List Run) : Type 0 where
  pub wide : b.across ≡ columns * across
  pub high : b.down ≡ rows * down
  pub shown : b.marks ≡ map (λ i. is_filled runs (i % b.across / across) (i / b.across / down)) (range_with_len 0 (b.across * b.down))
  pub inside : (column row : ℕ) → IsTrue (is_filled runs column row) → (column < columns) × (row < rows)

-- an SVG text that shows the picture: its `viewBox` has this many columns and rows of cells, and the path fills the cells of the dark pixels; the
-- elements `over` are drawn on top
pub record IsPathIn (columns rows : ℕ) (head : List ℕ) (frame : Frame) (dark light : List ℕ) (b : Bitmap) (over svg : List ℕ) : Type 0 where
  pub across : ℕ
  pub down : ℕ
  pub runs : List Run
  pub written : svg ≡ (head ++ path_front frame b.across b.down columns rows (attribute dark) (attribute light) runs) ++ (over ++ path_end)
  pub shown : AreRunsOf columns rows across down b runs

-- an SVG text that shows the picture alone, whatever the columns and rows of its `viewBox`
abbrev pub IsPathOf : List ℕ → Frame → List ℕ → List ℕ → Bitmap → List ℕ → Type 0
IsPathOf head frame dark light b svg = (columns : ℕ) × ((rows : ℕ) × IsPathIn columns rows head frame dark light b [] svg)
