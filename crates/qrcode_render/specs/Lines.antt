-- How lines of text are put together.
use Rattle.std.specs.Prelude.{ℕ, zero, suc, List, [], ◌∷◌}

-- what begins line y: a newline, except before the first line
abbrev pub line_start : ℕ → List ℕ
line_start zero = []
line_start (suc y) = 10 ∷ []
