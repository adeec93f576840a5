-- PDF 1.4 with one page of the picture's size, on which the runs of dark modules are filled.
use Rattle.std.specs.Prelude.{◌≡◌, ℕ, ◌+◌, ◌*◌, ◌/◌, ◌%◌, ◌^◌, ◌<◌, ◌==◌, ◌&&◌, Bool, if◌then◌else◌, List, [], ◌∷◌, ◌++◌, codes, decimal, length, map, flat_map, get_or}
use Rattle.std.specs.Char.Escape.{encode_utf16}
use Rattle.std.specs.List.{range_with_len}
use Rattle.std.specs.Str.{chars}
use Rattle.qrcode_render.specs.Bitmap.{Bitmap}
use Rattle.qrcode_sheets.specs.Paths.{AreRunsOf}
use Rattle.qrcode_sheets.specs.declared.runs.Run.{Run}
use Rattle.qrcode_sheets.specs.Printers.{hex_pair}

-- the decimal digit of a number at a power of ten
abbrev pub digit_at : ℕ → ℕ → ℕ
digit_at n power = 48 + n / power % 10

-- n millionths, as a number with six decimals
unfoldable pub millionths : ℕ → List ℕ
millionths n =
    decimal (n / 1000000) ++ 46 ∷ digit_at n 100000 ∷ digit_at n 10000 ∷ digit_at n 1000 ∷ digit_at n 100 ∷ digit_at n 10 ∷ digit_at n 1 ∷ []

-- the last ten decimal digits of a number
unfoldable pub ten_digits : ℕ → List ℕ
ten_digits n =
    digit_at n 1000000000 ∷ digit_at n 100000000 ∷ digit_at n 10000000 ∷ digit_at n 1000000 ∷ digit_at n 100000 ∷ digit_at n 10000 ∷ digit_at n 1000 ∷ digit_at n 100 ∷ digit_at n 10 ∷ digit_at n 1 ∷ []

-- a picture on its page: the modules across and down, the pixels of a module, those of the picture, and those to an inch
pub record Paper : Type 0 where
  pub columns : ℕ
  pub rows : ℕ
  pub across : ℕ
  pub down : ℕ
  pub wide : ℕ
  pub high : ℕ
  pub dots : ℕ

abbrev pub sheet : ℕ → ℕ → ℕ → ℕ → ℕ → Paper
sheet columns rows across down dots =
    record { columns = columns; rows = rows; across = across; down = down; wide = columns * across; high = rows * down; dots = dots }

-- a length of n pixels in points, 1/72 of an inch
abbrev pub points : Paper → ℕ → List ℕ
points s n = millionths (n * 72000000 / s.dots)

-- the coordinates: the unit is a module, and rows count from the top
abbrev pub turn : Paper → List ℕ
turn s = points s s.across ++ (codes " 0 0 -" ++ (points s s.down ++ (codes " 0 " ++ (points s s.high ++ codes " cm\n"))))

-- a component of a colour, from 0 to 255, as a fraction of 1
abbrev pub part : ℕ → List ℕ
part c = millionths ((c * 1000000 + 127) / 255) ++ codes " "

-- whether red, green and blue are equal
abbrev pub is_grey : List ℕ → Bool
is_grey parts = get_or parts 0 0 == get_or parts 1 0 && get_or parts 1 0 == get_or parts 2 0

-- sets the fill colour, given as red, green and blue; a grey is set as one, so that printers need only black ink
unfoldable pub paint : List ℕ → List ℕ
paint parts = if is_grey parts then part (get_or parts 0 0) ++ codes "g\n" else flat_map part parts ++ codes "rg\n"

-- fills the background
abbrev pub ground : Paper → List ℕ
ground s = codes "0 0 " ++ (decimal s.columns ++ (codes " " ++ (decimal s.rows ++ codes " re f\n")))

-- the rectangle of a run: its left, its top, its width and its height of one module
abbrev pub run_box : Run → List ℕ
run_box r = decimal r.left ++ (codes " " ++ (decimal r.top ++ (codes " " ++ (decimal r.width ++ codes " 1 re\n"))))

-- the operators before the runs
abbrev pub under : Paper → List ℕ → List ℕ → List ℕ
under s dark light = turn s ++ (paint light ++ (ground s ++ paint dark))

-- the runs, filled as one path
abbrev pub filled_path : List Run → List ℕ
filled_path runs = flat_map run_box runs ++ codes "f\n"

-- the operators of the page: the light background, the runs, and what is drawn over them
abbrev pub content : Paper → List ℕ → List ℕ → List Run → List ℕ → List ℕ
content s dark light runs over = (under s dark light ++ filled_path runs) ++ over

-- a file that is being written: its objects, and the cross-reference table of where they begin
pub record Body : Type 0 where
  pub text : List ℕ
  pub table : List ℕ

-- the file after another object: its text, and in the table where it begins
abbrev pub with_object : List ℕ → Body → Body
with_object object b = record { text = b.text ++ object; table = b.table ++ (ten_digits (length b.text) ++ codes " 00000 n \n") }

-- the beginning of the file, and of the table
abbrev pub start : Body
start = record { text = codes "%PDF-1.4\n"; table = codes "0000000000 65535 f \n" }

abbrev pub catalog : List ℕ
catalog = codes "1 0 obj\n<</Type/Catalog/Pages 2 0 R>>\nendobj\n"

abbrev pub pages : List ℕ
pages = codes "2 0 obj\n<</Type/Pages/Kids[3 0 R]/Count 1>>\nendobj\n"

-- the width and height of the page
abbrev pub sides : Paper → List ℕ
sides s = points s s.wide ++ (codes " " ++ points s s.high)

-- the page object, of the picture's size
abbrev pub page : Paper → List ℕ
page s = codes "3 0 obj\n<</Type/Page/Parent 2 0 R/Resources<<>>/Contents 4 0 R/MediaBox[0 0 " ++ (sides s ++ codes "]>>\nendobj\n")

-- the content stream of the page, with its length
abbrev pub stream : List ℕ → List ℕ
stream drawn = codes "4 0 obj\n<</Length " ++ (decimal (length drawn) ++ (codes ">>\nstream\n" ++ (drawn ++ codes "\nendstream\nendobj\n")))

-- the UTF-16 units of a character as hexadecimal digits
abbrev pub character_digits : ℕ → List ℕ
character_digits c = flat_map (λ unit. hex_pair (unit / 256) ++ hex_pair (unit % 256)) (encode_utf16 c)

-- a title as a hexadecimal string in UTF-16, which begins with a byte order mark
unfoldable pub title_text : List ℕ → List ℕ
title_text title = codes "<FEFF" ++ (flat_map character_digits (chars title) ++ codes ">")

-- the information object: the title, if there is one
abbrev pub information : List ℕ → List ℕ
information title = codes "5 0 obj\n<<" ++ (if length title == 0 then [] else codes "/Title" ++ title_text title) ++ codes ">>\nendobj\n"

-- the file with its five objects
abbrev pub body : Paper → List ℕ → List ℕ → Body
body s drawn title = with_object (information title) (with_object (stream drawn) (with_object (page s) (with_object pages (with_object catalog start))))

-- the objects of a page with these runs
abbrev pub page_body : Paper → List ℕ → List ℕ → List Run → List ℕ → List ℕ → Body
page_body s dark light runs over title = body s (content s dark light runs over) title

-- the cross-reference table and the trailer, which says where the table begins
abbrev pub ending : List ℕ → ℕ → List ℕ
ending table start = codes "xref\n0 6\n" ++ table ++ (codes "trailer\n<</Size 6/Root 1 0 R/Info 5 0 R>>\nstartxref\n" ++ (decimal start ++ codes "\n%%EOF\n"))

-- the objects, followed by the table
abbrev pub closed : Body → List ℕ
closed b = b.text ++ ending b.table (length b.text)

-- PDF operators that fill the dark pixels of a bitmap in a colour, with a pixel as the unit
pub record IsLayerOf (parts : List ℕ) (b : Bitmap) (text : List ℕ) : Type 0 where
  pub columns : ℕ
  pub rows : ℕ
  pub runs : List Run
  pub written : text ≡ paint parts ++ filled_path runs
  pub shown : AreRunsOf columns rows 1 1 b runs

-- a PDF file whose page shows the picture: it has this many columns and rows of modules, which are the units of the page, and the dark pixels are
-- those of the filled modules; the operators `over` are drawn on top; the file has the title, unless that is empty
pub record IsPdfIn (columns rows dots : ℕ) (dark light : List ℕ) (b : Bitmap) (over title file : List ℕ) : Type 0 where
  pub across : ℕ
  pub down : ℕ
  pub runs : List Run
  pub written : file ≡ closed (page_body (sheet columns rows across down dots) dark light runs over title)
  pub fits : length (page_body (sheet columns rows across down dots) dark light runs over title).text < 10 ^ 10
  pub shown : AreRunsOf columns rows across down b runs

-- likewise, whatever the columns and rows
abbrev pub IsPdfOf : ℕ → List ℕ → List ℕ → Bitmap → List ℕ → List ℕ → List ℕ → Type 0
IsPdfOf dots dark light b over title file = (columns : ℕ) × ((rows : ℕ) × IsPdfIn columns rows dots dark light b over title file)
