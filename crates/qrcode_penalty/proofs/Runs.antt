-- The runs of a line, counted by windows of five places.
use Rattle.std.proofs.Common.{◌≡◌, ℕ, zero, suc, ◌+◌, ◌-◌, ◌<◌, ◌≤◌, Bool, true, false, not, ◌==◌, ◌&&◌, ◌||◌, refl, ap, ap₂, sym, ◌∙◌, arith, add-one, eq-eqb, if◌then◌else◌}
use Rattle.std.proofs.lemmas.Bool.{ne_eqb}
use Rattle.std.proofs.lemmas.Bool.Decides.{nat_tests}
use Rattle.qrcode_penalty.specs.Penalty.{sum_below, count_if, same, is_run, begins_run, run_length, run_cost, run_penalty, run_penalty_at}
use Rattle.qrcode_penalty.proofs.Sums.{sum_same, sum_zero}

-- the length of the run once the next place is added, of the same colour or not
abbrev next : Bool → ℕ → ℕ
next s r = if s then suc r else 1

no_cost : (r : ℕ) → r < 5 → run_cost r ≡ 0
no_cost r h = grind (arith, nat_tests)

-- what one more place costs: 3 if it completes five, 1 if it continues a longer run
cost_more : (a b c d : Bool) (r : ℕ) (begins : Bool) → (begins ≡ true → r ≡ 1) → (begins ≡ false → 2 ≤ r) →
    count_if (not d) (run_cost (next c (next b (next a r)))) + run_cost (next d (next c (next b (next a r))))
    ≡ run_cost (next c (next b (next a r))) + count_if (d && (c && (b && a))) (if begins then 3 else 1)
cost_more a b c d r begins one more = grind (arith, nat_tests)

five_same : (a b c d e : Bool) → (same a a && (same a b && (same a c && (same a d && (same a e && true))))) ≡ (same d e && (same c d && (same b c && same a b)))
five_same a b c d e = grind (arith, nat_tests)

positive : (line : ℕ → Bool) (i : ℕ) → 1 ≤ run_length line i
unfolding run_length
positive line zero = omega arith
positive line (suc i) = first (same (line i) (line (suc i))) (run_length line i) where
  first : (s : Bool) (r : ℕ) → 1 ≤ next s r
  first s r = grind (arith, nat_tests)

run_length-begins : (line : ℕ → Bool) (i : ℕ) → begins_run line i ≡ true → run_length line i ≡ 1
unfolding run_length
run_length-begins line zero e = refl
run_length-begins line (suc i) e = by_color (same (line i) (line (suc i))) e where
  by_color : (s : Bool) → not s ≡ true → next s (run_length line i) ≡ 1
  by_color true e = cc
  by_color false e = refl

run_length-goes_on : (line : ℕ → Bool) (i : ℕ) → begins_run line i ≡ false → 2 ≤ run_length line i
unfolding run_length
run_length-goes_on line zero e = cc
run_length-goes_on line (suc i) e = by_color (same (line i) (line (suc i))) e where
  by_color : (s : Bool) → not s ≡ false → 2 ≤ next s (run_length line i)
  by_color true e = omega (arith, positive line i)
  by_color false e = cc

next_le : (s : Bool) (r m : ℕ) → r ≤ m → next s r ≤ suc m
next_le true r m h = omega arith
next_le false r m h = omega arith

run_length-le : (line : ℕ → Bool) (i : ℕ) → run_length line i ≤ suc i
unfolding run_length
run_length-le line zero = omega arith
run_length-le line (suc i) = next_le (same (line i) (line (suc i))) (run_length line i) (suc i) (run_length-le line i)

-- the penalty of the runs that end before place m
abbrev closed : (ℕ → Bool) → ℕ → ℕ
closed line m = sum_below m (λ i. count_if (not (same (line i) (line (suc i)))) (run_cost (run_length line i)))

count_none : (b : Bool) (n : ℕ) → n ≡ 0 → count_if b n ≡ 0
count_none true n e = e
count_none false n e = refl

few : (line : ℕ → Bool) (m : ℕ) → m < 4 → closed line m + run_cost (run_length line m) ≡ 0
few line m h =
    let none = sum_zero (λ i. count_if (not (same (line i) (line (suc i)))) (run_cost (run_length line i))) m
    (λ k l. count_none _ _ (no_cost (run_length line k) (omega (arith, run_length-le line k)))) in
    omega (arith, none, no_cost (run_length line m) (omega (arith, run_length-le line m)))

pub is_run-same : (line : ℕ → Bool) (i : ℕ) → let s = λ (k : ℕ). same (line k) (line (suc k)) in
    is_run line i 5 ≡ (s (suc (suc (suc i))) && (s (suc (suc i)) && (s (suc i) && s i)))
is_run-same line i = simp add-one (five_same (line i) (line (suc i)) (line (suc (suc i))) (line (suc (suc (suc i)))) (line (suc (suc (suc (suc i))))))

by_windows : (line : ℕ → Bool) (j : ℕ) → closed line (suc (suc (suc j))) + run_cost (run_length line (suc (suc (suc j)))) ≡ sum_below j (run_penalty_at line)
unfolding sum_below run_length run_penalty_at
by_windows line zero = few line 3 (omega arith)
by_windows line (suc j) =
    let s : ℕ → Bool = λ k. same (line k) (line (suc k)) in
    let more = cost_more (s j) (s (suc j)) (s (suc (suc j))) (s (suc (suc (suc j)))) (run_length line j) (begins_run line j) (run_length-begins line j) (run_length-goes_on line j) in
    let window = ap (λ b. count_if b (if begins_run line j then 3 else 1)) (is_run-same line j) in
    omega (arith, by_windows line j, more, window)

windows : (line : ℕ → Bool) (m : ℕ) → closed line m + run_cost (run_length line m) ≡ sum_below (m - 3) (run_penalty_at line)
unfolding sum_below
windows line zero = few line 0 (omega arith)
windows line (suc zero) = few line 1 (omega arith)
windows line (suc (suc zero)) = few line 2 (omega arith)
windows line (suc (suc (suc j))) = let e : suc (suc (suc j)) - 3 ≡ j = omega arith in rw e (by_windows line j)

-- a run of five or more costs as much as the windows that begin in it, plus 2
pub run_penalty-windows : (n : ℕ) (line : ℕ → Bool) → run_penalty n line ≡ sum_below (n - 4) (run_penalty_at line)
unfolding run_penalty sum_below
run_penalty-windows zero line = refl
run_penalty-windows (suc m) line =
    let last : (suc m == suc m) ≡ true = eq-eqb (suc m) (suc m) refl in
    let e : suc m - 4 ≡ m - 3 = omega arith in
    ap₂ (λ (a b : ℕ). a + b)
    (sum_same _ (λ i. count_if (not (same (line i) (line (suc i)))) (run_cost (run_length line i))) m
    (λ k h. ap (λ b. count_if (b || not (same (line k) (line (suc k)))) (run_cost (run_length line k))) (ne_eqb (suc k) (suc m) (λ e. absurd (omega arith)))))
    (ap (λ b. count_if (b || not (same (line m) (line (suc m)))) (run_cost (run_length line m))) last)
    ∙ windows line m ∙ ap (λ k. sum_below k (run_penalty_at line)) (sym e)
