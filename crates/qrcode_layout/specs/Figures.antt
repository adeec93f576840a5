-- The functional patterns as figures: rectangles of modules, each with a rule for its colours.
use Rattle.std.specs.Prelude.{ℕ, ◌+◌, ◌-◌, ◌*◌, ◌%◌, ◌==◌, nat_le, nat_lt, ◌&&◌, ◌||◌, not, min, nat_abs, Bool, true, false, List, [], ◌∷◌, ◌++◌, map, filter, flat_map, slice_index_or, if◌then◌else◌}
use Rattle.qrcode_types.specs.Bits.{has_bit}
use Rattle.qrcode_types.specs.Versions.{side}
use Rattle.qrcode_types.specs.declared.types.Version.{Version}
use Rattle.qrcode_types.specs.declared.types.Version.TheVariants.{Normal, Micro}
use Rattle.qrcode_layout.specs.Centres.{centre_table}
use Rattle.qrcode_layout.specs.Words.{version_word}
use Rattle.qrcode_layout.specs.declared.figures.Coloring.{Coloring}
use Rattle.qrcode_layout.specs.declared.figures.Coloring.TheVariants.{Squares, Turns, Light, Dark, WordAcross, WordDown}
use Rattle.qrcode_layout.specs.declared.figures.Figure.{Figure}

abbrev pub has_column : Figure → ℕ → Bool  -- the figure covers some of column x
has_column f x = nat_le f.left x && nat_lt x (f.left + f.across)

abbrev pub has_row : Figure → ℕ → Bool  -- the figure covers some of row y
has_row f y = nat_le f.top y && nat_lt y (f.top + f.down)

abbrev pub has : Figure → ℕ → ℕ → Bool  -- the figure contains the module in column x and row y
has f x y = has_column f x && has_row f y

-- Whether the module i columns and j rows from the top left corner of a figure is dark. Of concentric squares, the one next to the outermost is
-- light: in a finder pattern they have 7, 5 and 3 modules along a side, in an alignment pattern 5, 3 and 1. Timing modules alternate between dark and
-- light. The version word has its lowest bit first, three bits in each row or column.
abbrev pub is_dark_by_rule : ℕ → Figure → ℕ → ℕ → Bool
is_dark_by_rule version f i j =
    elim f.coloring [
      | Squares ↦ not (min (min i (f.across - 1 - i)) (min j (f.down - 1 - j)) == 1)
      | Turns ↦ (i + j) % 2 == 0
      | Light ↦ false
      | Dark ↦ true
      | WordAcross ↦ has_bit (version_word version) (3 * j + i)
      | WordDown ↦ has_bit (version_word version) (3 * i + j)
    ]

abbrev pub number : Version → ℕ  -- the number of the version, without Normal or Micro
number (Normal v) = nat_abs v
number (Micro v) = nat_abs v

abbrev pub is_dark_in : Version → Figure → ℕ → ℕ → Bool  -- the module in column x and row y of the symbol, which the figure covers, is dark
is_dark_in v f x y = is_dark_by_rule (number v) f (x - f.left) (y - f.top)

abbrev pub bar : Coloring → ℕ → ℕ → ℕ → ℕ → Figure  -- a figure by its rule, its first column and row, and its width and height
bar coloring left top across down = record { left = left; top = top; across = across; down = down; coloring = coloring }

abbrev pub square : ℕ → ℕ → ℕ → Figure  -- concentric squares, by their first column and row and the modules along a side
square left top side = bar Squares left top side side

-- Finder patterns in three corners of a symbol with w modules along a side. Each has a separator, light and one module wide, along its two sides that
-- are not at the symbol's edge.
abbrev pub finders : ℕ → List Figure
finders w =
    square 0 0 7 ∷ bar Light 7 0 1 8 ∷ bar Light 0 7 7 1
    ∷ square (w - 7) 0 7 ∷ bar Light (w - 8) 0 1 8 ∷ bar Light (w - 7) 7 7 1
    ∷ square 0 (w - 7) 7 ∷ bar Light 7 (w - 8) 1 8 ∷ bar Light 0 (w - 8) 7 1 ∷ []

-- the coordinates of the alignment centres; Normal 2 to 6 have one centre, and their first coordinate only yields corners with finder patterns
unfoldable pub centres : Version → List ℕ
centres (Normal v) =
    let n = nat_abs v in
    if nat_le 7 n then slice_index_or centre_table (n - 7) [] else (if nat_le 2 n then 6 ∷ (4 * n + 10) ∷ [] else [])
centres (Micro v) = []

-- an alignment centre at these coordinates would be in the corner of a finder pattern
abbrev pub is_corner_centre : ℕ → ℕ → ℕ → Bool
is_corner_centre w a b = (a == 6 && (b == 6 || b == w - 7)) || (a == w - 7 && b == 6)

-- an alignment pattern centred at this coordinate lies inside a symbol with w modules along a side
abbrev pub is_centre_inside : ℕ → ℕ → Bool
is_centre_inside w a = nat_le 2 a && nat_le (a + 3) w

abbrev pub alignment : ℕ → ℕ → Figure  -- the alignment pattern centred at column a and row b
alignment a b = square (a - 2) (b - 2) 5

-- the alignment patterns centred in row b: at all coordinates, except in the corners of finder patterns
abbrev pub alignment_row : Version → ℕ → List Figure
alignment_row v b = map (λ a. alignment a b) (filter (λ a. not (is_corner_centre (side v) a b)) (centres v))

abbrev pub alignments : Version → List Figure  -- the alignment patterns of the version
alignments v = flat_map (alignment_row v) (centres v)

abbrev pub word_figures : ℕ → List Figure  -- the two copies of the version word
word_figures w = bar WordAcross (w - 11) 0 3 6 ∷ bar WordDown 0 (w - 11) 6 3 ∷ []

abbrev pub version_figures : ℕ → List Figure  -- symbols of Normal 7 and above have them; those have at least 45 modules along a side
version_figures w = if nat_le 45 w then word_figures w else []

-- what every Normal symbol with w modules along a side has: finder patterns with separators, timing patterns and the dark module
abbrev pub normal_figures : ℕ → List Figure
normal_figures w = finders w ++ bar Turns 8 6 (w - 16) 1 ∷ bar Turns 6 8 1 (w - 16) ∷ bar Dark 8 (w - 8) 1 1 ∷ []

abbrev pub micro_figures : ℕ → List Figure  -- what every Micro symbol has: a finder pattern with its separator, and timing patterns
micro_figures w = square 0 0 7 ∷ bar Light 7 0 1 8 ∷ bar Light 0 7 7 1 ∷ bar Turns 8 0 (w - 8) 1 ∷ bar Turns 0 8 1 (w - 8) ∷ []

-- The functional patterns of a version. Where two of them overlap they agree (`FiguresAgree`), so their order does not matter.
unfoldable pub figures : Version → List Figure
figures (Normal v) =
    let w = 4 * nat_abs v + 17 in
    normal_figures w ++ version_figures w ++ alignments (Normal v)
figures (Micro v) = micro_figures (2 * nat_abs v + 9)

abbrev pub normal_format_figures : ℕ → List Figure  -- the places of the format word, which stay light until a mask is chosen
normal_format_figures w =
    bar Light 0 8 6 1 ∷ bar Light 7 8 2 1 ∷ bar Light 8 7 1 1 ∷ bar Light 8 0 1 6 ∷ bar Light (w - 8) 8 8 1 ∷ bar Light 8 (w - 7) 1 7 ∷ []

abbrev pub micro_format_figures : List Figure
micro_format_figures = bar Light 1 8 8 1 ∷ bar Light 8 1 1 7 ∷ []

unfoldable pub format_figures : Version → List Figure  -- the places of the format word, by version
format_figures (Normal v) = normal_format_figures (4 * nat_abs v + 17)
format_figures (Micro v) = micro_format_figures

-- the figure has the shape of a version word, six modules by three, and the version is one of 7 to 40
abbrev pub word_fits : Version → ℕ → ℕ → Bool
word_fits v long short = nat_le 7 (number v) && nat_le (number v) 40 && long == 6 && short == 3

abbrev pub fits : Version → Figure → Bool  -- the figure lies inside the symbol, and if it is a version word, the version has one
fits v f =
    nat_le (f.left + f.across) (side v) && nat_le (f.top + f.down) (side v)
    && elim f.coloring [ Squares ↦ true | Turns ↦ true | Light ↦ true | Dark ↦ true | WordAcross ↦ word_fits v f.down f.across | WordDown ↦ word_fits v f.across f.down ]
