-- Texts of lines, with line feeds between them.
use Rattle.std.specs.Prelude.{ℕ, ◌==◌, List, [], ◌∷◌, ◌++◌, flat_map, slice_index_or}
use Rattle.std.specs.List.{slice_split}

abbrev pub later_text : List (List ℕ) → List ℕ  -- lines, each with a line feed before it
later_text lines = flat_map (λ line. 10 ∷ line) lines

abbrev pub lines_text : List (List ℕ) → List ℕ  -- lines with line feeds between them
lines_text [] = []
lines_text (line ∷ lines) = line ++ later_text lines

abbrev pub read_lines : List ℕ → List (List ℕ)  -- the lines of a text
read_lines text = slice_split (λ b. b == 10) text

abbrev pub line_at : List (List ℕ) → ℕ → List ℕ  -- the i-th line; empty after the last
line_at lines i = slice_index_or lines i []
