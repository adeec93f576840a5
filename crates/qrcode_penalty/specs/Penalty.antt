-- The penalty of a square of modules, given by which of its places are dark.
use Rattle.std.specs.Prelude.{ℕ, zero, suc, ◌+◌, ◌-◌, ◌*◌, ◌/◌, nat_le, ◌==◌, ◌&&◌, ◌||◌, not, max, Bool, true, false, if◌then◌else◌}
use Rattle.std.specs.Int.{abs_diff}
use Rattle.std.specs.List.{range_with_len, list_all}

-- f 0 + f 1 + .. + f (n - 1)
unfoldable pub sum_below : ℕ → (ℕ → ℕ) → ℕ
sum_below zero f = 0
sum_below (suc n) f = sum_below n f + f n

-- the number if the test holds, otherwise 0
abbrev pub count_if : Bool → ℕ → ℕ
count_if true n = n
count_if false n = 0

-- two modules are both dark or both light
abbrev pub same : Bool → Bool → Bool
same true b = b
same false b = not b

-- A line is given by which of its places are dark, and by the number of its places.

-- the `count` places from i on have the colour of place i
abbrev pub is_run : (ℕ → Bool) → ℕ → ℕ → Bool
is_run line i count = list_all (λ j. same (line i) (line j)) (range_with_len i count)

-- place i is the first of its run
abbrev pub begins_run : (ℕ → Bool) → ℕ → Bool
begins_run line zero = true
begins_run line (suc i) = not (same (line i) (line (suc i)))

-- place i is the last of its run in a line of n places
abbrev pub ends_run : ℕ → (ℕ → Bool) → ℕ → Bool
ends_run n line i = suc i == n || not (same (line i) (line (suc i)))

-- how many places of the run end at place i
unfoldable pub run_length : (ℕ → Bool) → ℕ → ℕ
run_length line zero = 1
run_length line (suc i) = if same (line i) (line (suc i)) then suc (run_length line i) else 1

-- a run of 5 + i places costs 3 + i
abbrev pub run_cost : ℕ → ℕ
run_cost length = if nat_le 5 length then 3 + (length - 5) else 0

-- the penalty of the runs in a line of n places; each is counted where it ends
unfoldable pub run_penalty : ℕ → (ℕ → Bool) → ℕ
run_penalty n line = sum_below n (λ i. count_if (ends_run n line i) (run_cost (run_length line i)))

-- the penalty of runs, counted by windows of five equal places: 3 for the window that begins a run, 1 for each other
unfoldable pub run_penalty_at : (ℕ → Bool) → ℕ → ℕ
run_penalty_at line i = count_if (is_run line i 5) (if begins_run line i then 3 else 1)

-- the `count` places from i on are light; places past the end count as light
abbrev pub is_light_from : ℕ → (ℕ → Bool) → ℕ → ℕ → Bool
is_light_from n line i count = list_all (λ j. nat_le n j || not (line j)) (range_with_len i count)

-- a finder form: dark, light, three dark, light, dark from place i on
unfoldable pub is_finder_like : (ℕ → Bool) → ℕ → Bool
is_finder_like line i = line i && not (line (i + 1)) && line (i + 2) && line (i + 3) && line (i + 4) && not (line (i + 5)) && line (i + 6)

-- 40 for a finder form at place i with four light places before it or after it; places outside count as light
unfoldable pub finder_penalty_at : ℕ → (ℕ → Bool) → ℕ → ℕ
finder_penalty_at n line i = count_if (is_finder_like line i && (is_light_from n line (i - 4) (i - (i - 4)) || is_light_from n line (i + 7) 4)) 40

-- the penalty of the finder forms in a line of n places
unfoldable pub finder_penalty : ℕ → (ℕ → Bool) → ℕ
finder_penalty n line = sum_below (n - 6) (finder_penalty_at n line)

-- the penalty of a line of n places
abbrev pub line_penalty : ℕ → (ℕ → Bool) → ℕ
line_penalty n line = run_penalty n line + finder_penalty n line

-- A square is given by which of its places, by column and row, are dark, and by the number of places along a side.

-- 3 if the 2 by 2 modules from column x and row y on are of one colour
unfoldable pub block_penalty_at : (ℕ → ℕ → Bool) → ℕ → ℕ → ℕ
block_penalty_at dark y x = count_if (same (dark x y) (dark (x + 1) y) && same (dark x y) (dark x (y + 1)) && same (dark x y) (dark (x + 1) (y + 1))) 3

-- the penalty of all 2 by 2 blocks of one colour
unfoldable pub block_penalty : ℕ → (ℕ → ℕ → Bool) → ℕ
block_penalty w dark = sum_below (w - 1) (λ y. sum_below (w - 1) (block_penalty_at dark y))

-- the number of dark places in a line
unfoldable pub dark_count_in : ℕ → (ℕ → Bool) → ℕ
dark_count_in n line = sum_below n (λ x. count_if (line x) 1)

-- the number of dark places in a square
unfoldable pub dark_count : ℕ → (ℕ → ℕ → Bool) → ℕ
dark_count w dark = sum_below w (λ y. dark_count_in w (λ x. dark x y))

-- how far the proportion of dark modules is from 50 %, in steps of 0.5 %; the proportion is rounded down to such a step
unfoldable pub balance_penalty : ℕ → (ℕ → ℕ → Bool) → ℕ
balance_penalty w dark = abs_diff (200 * dark_count w dark / (w * w)) 100

-- the penalty of a Normal square: its rows, its columns, its blocks and its balance
unfoldable pub normal_penalty : ℕ → (ℕ → ℕ → Bool) → ℕ
normal_penalty w dark =
    sum_below w (λ y. line_penalty w (λ x. dark x y)) + sum_below w (λ x. line_penalty w (λ y. dark x y)) + block_penalty w dark + balance_penalty w dark

-- the number of light places in a line, without the first
unfoldable pub light_count : ℕ → (ℕ → Bool) → ℕ
light_count w line = sum_below (w - 1) (λ i. count_if (not (line (i + 1))) 1)

-- the penalty of a Micro square: the light modules of the last row and of the last column, and 15 times the larger number. It is 17 * (w - 1) minus
-- the score of the standard, which counts dark modules.
unfoldable pub micro_penalty : ℕ → (ℕ → ℕ → Bool) → ℕ
micro_penalty w dark =
    let row = light_count w (λ x. dark x (w - 1)) in
    let column = light_count w (λ y. dark (w - 1) y) in
    row + column + 15 * max row column
