-- Counting runs by windows: places of a line, together with the two before them, where five equal modules begin.
use Rattle.std.specs.Prelude.{ℕ, zero, suc, ◌||◌, Bool, false}
use Rattle.qrcode_penalty.specs.Penalty.{sum_below, count_if, is_run}

-- the test passes at the place before k; there is none before 0
abbrev pub before : (ℕ → Bool) → ℕ → Bool
before v zero = false
before v (suc k) = v k

-- the test passes at the place or the one before
abbrev pub two : (ℕ → Bool) → ℕ → Bool
two v k = v k || before v k

-- the test passes at the place or at one of the two before
abbrev pub three : (ℕ → Bool) → ℕ → Bool
three v k = v k || before (two v) k

-- five modules of one colour, downwards from column x and row y
abbrev pub run_from : (ℕ → ℕ → Bool) → ℕ → ℕ → Bool
run_from dark x y = is_run (dark x) y 5

-- in how many of m columns such five modules begin in row y or in one of the two rows before
abbrev pub inside_row : (ℕ → ℕ → Bool) → ℕ → ℕ → ℕ
inside_row dark m y = sum_below m (λ x. count_if (three (run_from dark x) y) 1)
