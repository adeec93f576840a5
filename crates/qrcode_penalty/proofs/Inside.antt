-- The penalty of runs as the number of modules inside them: each window of five counts for its first place and the two after it.
use Rattle.std.proofs.Common.{◌≡◌, ℕ, zero, suc, ◌+◌, ◌*◌, ◌^◌, ◌<◌, ◌≤◌, Bool, false, not, ◌&&◌, ◌||◌, refl, ap, ap₂, sym, ◌∙◌, arith, bit_or, if◌then◌else◌}
use Rattle.std.proofs.lemmas.Bool.Decides.{nat_tests}
use Rattle.qrcode_penalty.specs.Rows.{is_set}
use Rattle.qrcode_penalty.proofs.Places.{has_or, has_shl, has_shl_below}
use Rattle.qrcode_penalty.specs.Penalty.{sum_below, count_if, same, is_run, begins_run, run_penalty_at}
use Rattle.qrcode_penalty.specs.Inside.{before, two, three, run_from, inside_row}
use Rattle.qrcode_penalty.proofs.Runs.{is_run-same}
use Rattle.qrcode_penalty.proofs.Sums.{sum_same, sum_plus, sum_swap}

-- a number, or-ed with another shifted by one place
pub shifted_at : (a b k : ℕ) → is_set (bit_or a (b * 2 ^ 1)) k ≡ (is_set a k || before (is_set b) k)
shifted_at a b zero = has_or a (b * 2 ^ 1) 0 ∙ ap (λ t. is_set a 0 || t) (has_shl_below b 1 0 (omega arith))
shifted_at a b (suc k) =
    let e : suc k ≡ k + 1 = omega arith in
    has_or a (b * 2 ^ 1) (suc k) ∙ ap (λ t. is_set a (suc k) || t) (ap (λ i. is_set (b * 2 ^ 1) i) e ∙ has_shl b 1 k)

-- what remains to be counted after the first n places
abbrev pub behind : (ℕ → Bool) → ℕ → ℕ
behind v n = count_if (before (two v) n) 1 + count_if (before v n) 1

first_cost : (now : Bool) → count_if (now || false) 1 + (count_if (now || false) 1 + count_if now 1) ≡ 0 + 0 + count_if now 3
first_cost now = grind (arith, nat_tests)

second_cost : (p b c d r : Bool) → let now = d && (c && (b && p)) in let next = r && (d && (c && b)) in
    count_if (next || (now || false)) 1 + (count_if (next || now) 1 + count_if next 1) ≡ count_if (now || false) 1 + count_if now 1 + count_if next (if not p then 3 else 1)
second_cost p b c d r = grind (arith, nat_tests)

later_cost : (q p b c d r : Bool) → let first = c && (b && (p && q)) in let now = d && (c && (b && p)) in let next = r && (d && (c && b)) in
    count_if (next || (now || first)) 1 + (count_if (next || now) 1 + count_if next 1) ≡ count_if (now || first) 1 + count_if now 1 + count_if next (if not p then 3 else 1)
later_cost q p b c d r = grind (arith, nat_tests)

-- the window from place k on, given which places equal the next
abbrev window : (ℕ → Bool) → ℕ → Bool
window line k = same (line (suc (suc (suc k)))) (line (suc (suc (suc (suc k))))) && (same (line (suc (suc k))) (line (suc (suc (suc k)))) && (same (line (suc k)) (line (suc (suc k))) && same (line k) (line (suc k))))

-- one more place: its count and what then remains are what remained before and the cost of its window
more : (line v : ℕ → Bool) (k : ℕ) → ((j : ℕ) → j ≤ k → v j ≡ window line j) → count_if (three v k) 1 + behind v (suc k) ≡ behind v k + count_if (v k) (if begins_run line k then 3 else 1)
more line v zero h = first_cost (v 0)
more line v (suc zero) h =
    let s : ℕ → Bool = λ k. same (line k) (line (suc k)) in
    rw (h 0 (omega arith)) (rw (h 1 (omega arith)) (second_cost (s 0) (s 1) (s 2) (s 3) (s 4)))
more line v (suc (suc k)) h =
    let s : ℕ → Bool = λ k. same (line k) (line (suc k)) in
    rw (h k (omega arith)) (rw (h (suc k) (omega arith)) (rw (h (suc (suc k)) (omega arith))
    (later_cost (s k) (s (suc k)) (s (suc (suc k))) (s (suc (suc (suc k)))) (s (suc (suc (suc (suc k))))) (s (suc (suc (suc (suc (suc k)))))))))

-- the windows that begin in the first n places cost as much as the places they count for
pub inside_runs : (line v : ℕ → Bool) (n : ℕ) → ((k : ℕ) → k < n → v k ≡ is_run line k 5) → sum_below n (λ k. count_if (three v k) 1) + behind v n ≡ sum_below n (run_penalty_at line)
unfolding sum_below run_penalty_at
inside_runs line v zero h = refl
inside_runs line v (suc n) h =
    let step = more line v n (λ j l. h j (omega (arith, l)) ∙ is_run-same line j) in
    let now = ap (λ b. count_if b (if begins_run line n then 3 else 1)) (h n (omega arith)) in
    omega (arith, inside_runs line v n (λ k l. h k (omega (arith, l))), step, now)

-- `inside_runs` if the test fails at all places from n on
pub inside_sum : (line v : ℕ → Bool) (n : ℕ) → ((k : ℕ) → k < n → v k ≡ is_run line k 5) → ((k : ℕ) → n ≤ k → v k ≡ false) → sum_below (n + 2) (λ k. count_if (three v k) 1) ≡ sum_below n (run_penalty_at line)
unfolding sum_below
inside_sum line v n h none =
    let e : n + 2 ≡ suc (suc n) = omega arith in
    let here = ap (λ b. count_if (b || before (two v) n) 1) (none n (omega arith)) in
    let same_next = ap₂ (λ (a b : Bool). count_if (a || (b || before v n)) 1) (none (suc n) (omega arith)) (none n (omega arith)) in
    ap (λ m. sum_below m (λ k. count_if (three v k) 1)) e ∙ omega (arith, inside_runs line v n h, here, same_next)

-- the number of columns with such a window in the row before n; and with one in either of the two rows before n
abbrev pub last_row : (ℕ → ℕ → Bool) → ℕ → ℕ → ℕ
last_row dark m n = sum_below m (λ x. count_if (before (run_from dark x) n) 1)

abbrev pub both_row : (ℕ → ℕ → Bool) → ℕ → ℕ → ℕ
both_row dark m n = sum_below m (λ x. count_if (before (two (run_from dark x)) n) 1)

pub columns_inside : (dark : ℕ → ℕ → Bool) (m n : ℕ) → sum_below n (inside_row dark m) + (both_row dark m n + last_row dark m n) ≡ sum_below n (λ y. sum_below m (λ x. run_penalty_at (dark x) y))
columns_inside dark m n =
    ap₂ (λ (a b : ℕ). a + b)
    (sum_swap (λ x y. count_if (three (run_from dark x) y) 1) n m)
    (sym (sum_plus (λ x. count_if (before (two (run_from dark x)) n) 1) (λ x. count_if (before (run_from dark x) n) 1) m))
    ∙ sym (sum_plus (λ x. sum_below n (λ y. count_if (three (run_from dark x) y) 1)) (λ x. behind (run_from dark x) n) m)
    ∙ sum_same _ (λ x. sum_below n (run_penalty_at (dark x))) m (λ x h. inside_runs (dark x) (run_from dark x) n (λ k l. refl))
    ∙ sym (sum_swap (λ x y. run_penalty_at (dark x) y) n m)
