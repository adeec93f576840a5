-- Wrong modules of figures, and whether a square has finder patterns.
use Rattle.std.specs.Prelude.{ℕ, ◌+◌, ◌-◌, ◌*◌, nat_le, nat_abs, Bool, List, [], ◌∷◌, sum_by, if◌then◌else◌}
use Rattle.qrcode_types.specs.Colors.{is_dark, color_of}
use Rattle.qrcode_types.specs.declared.types.Color.{Color}
use Rattle.qrcode_types.specs.declared.types.Version.{Version}
use Rattle.qrcode_types.specs.declared.types.Version.TheVariants.{Normal, Micro}
use Rattle.qrcode_layout.specs.declared.figures.Coloring.TheVariants.{Light, Dark, Turns}
use Rattle.qrcode_layout.specs.declared.figures.Figure.{Figure}
use Rattle.qrcode_layout.specs.Figures.{bar, square, finders, number, is_dark_by_rule}
use Rattle.qrcode_layout.specs.Stream.{color_at}
use Rattle.qrcode_penalty.specs.Penalty.{same, sum_below}

abbrev pub difference : Color → Color → ℕ  -- 1 if two colours differ, else 0
difference a b = if same (is_dark a) (is_dark b) then 0 else 1

-- 1 if the module in this row and column of a figure has the wrong colour, else 0
abbrev pub wrong_at : Version → List Color → Figure → ℕ → ℕ → ℕ
wrong_at v s f row column = difference (color_at v s (f.left + column) (f.top + row)) (color_of (is_dark_by_rule (number v) f column row))

abbrev pub wrong_in_row : Version → List Color → Figure → ℕ → ℕ  -- the number of wrong modules in a row of a figure
wrong_in_row v s f row = sum_below f.across (wrong_at v s f row)

abbrev pub wrong_in : Version → List Color → Figure → ℕ  -- the number of wrong modules of a figure
wrong_in v s f = sum_below f.down (wrong_in_row v s f)

abbrev pub wrong_of : Version → List Color → List Figure → ℕ  -- the number of wrong modules of all figures
wrong_of v s figures = sum_by (wrong_in v s) figures

abbrev pub finder_figures : Version → List Figure  -- the finder patterns with their separators
finder_figures (Normal n) = finders (4 * nat_abs n + 17)
finder_figures (Micro n) = square 0 0 7 ∷ bar Light 7 0 1 8 ∷ bar Light 0 7 7 1 ∷ []

abbrev pub timing_figures : Version → List Figure  -- the timing patterns
timing_figures (Normal n) = let w = 4 * nat_abs n + 17 in bar Turns 8 6 (w - 16) 1 ∷ bar Turns 6 8 1 (w - 16) ∷ []
timing_figures (Micro n) = let w = 2 * nat_abs n + 9 in bar Turns 8 0 (w - 8) 1 ∷ bar Turns 0 8 1 (w - 8) ∷ []

abbrev pub dark_figures : Version → List Figure  -- the module that is always dark; Micro has none
dark_figures (Normal n) = bar Dark 8 (4 * nat_abs n + 17 - 8) 1 1 ∷ []
dark_figures (Micro n) = []

-- the finder patterns are in place: at most 16 modules of them and their separators are wrong
abbrev pub has_finders : Version → List Color → Bool
has_finders v s = nat_le (wrong_of v s (finder_figures v)) 16
