-- Padded rows of a square, finder forms with light modules on one side, and blocks by two rows.
use Rattle.std.specs.Prelude.{ℕ, ◌+◌, ◌-◌, nat_le, ◌&&◌, ◌||◌, Bool, List, slice_index_or, bit_or, if◌then◌else◌}
use Rattle.qrcode_penalty.specs.Penalty.{count_if, same, is_finder_like, is_light_from}

-- row k - 4 of the square; the four padded rows before the first have no dark modules
abbrev pub padded_row : List ℕ → ℕ → ℕ
padded_row rows k = if nat_le 4 k then slice_index_or rows (k - 4) 0 else 0

-- the four padded rows from the k-th on, or-ed together
abbrev pub four_rows : List ℕ → ℕ → ℕ
four_rows rows k = bit_or (bit_or (padded_row rows k) (padded_row rows (k + 1))) (bit_or (padded_row rows (k + 2)) (padded_row rows (k + 3)))

-- a finder form begins at place i of a line of n, with four light places before it or after it
abbrev pub is_lone_form : ℕ → (ℕ → Bool) → ℕ → Bool
is_lone_form n line i = is_finder_like line i && (is_light_from n line (i - 4) (i - (i - 4)) || is_light_from n line (i + 7) 4)

-- 3 if the 2 by 2 modules from column x on of two rows are of one colour
abbrev pub block_penalty_in : (ℕ → Bool) → (ℕ → Bool) → ℕ → ℕ
block_penalty_in upper lower x = count_if (same (upper x) (upper (x + 1)) && same (upper x) (lower x) && same (upper x) (lower (x + 1))) 3
