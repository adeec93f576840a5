-- The intermediate words of the code for columns, bit by bit.
use Rattle.std.proofs.Common.{◌≡◌, ℕ, zero, suc, ◌+◌, ◌-◌, ◌*◌, ◌≤◌, Bool, true, false, not, ◌&&◌, ◌||◌, List, ap, ap₂, ◌∙◌, arith, count_ones, if◌then◌else◌, bit_and, bit_or, bit_xor, add_assoc, slice_index_or, length, le-leb}
use Rattle.std.proofs.lemmas.List.{get_or_past}
use Rattle.std.proofs.lemmas.Nat.{or_lt}
use Rattle.std.proofs.lemmas.Bool.Decides.{nat_tests}
use Rattle.qrcode_penalty.specs.Rows.{is_set}
use Rattle.qrcode_penalty.proofs.Places.{differ, has_and, has_or, has_xor, has_without, has_zero, has_above}
use Rattle.qrcode_penalty.specs.Penalty.{sum_below, is_run, same, block_penalty_at, finder_penalty_at}
use Rattle.qrcode_penalty.proofs.Finders.{pad, four, finder_at}
use Rattle.qrcode_penalty.specs.Rows.{dark_in, FitsWidth}
use Rattle.qrcode_penalty.specs.Padding.{padded_row, four_rows, is_lone_form, block_penalty_in}
use Rattle.qrcode_penalty.proofs.Sums.{weigh_places}
use Rattle.qrcode_penalty.proofs.Lines.{without}

upper_test : (a b c d e : Bool) → not (((differ b c || differ c d) || differ d e) || differ a b) ≡ (same a a && (same a b && (same a c && (same a d && (same a e && true)))))
upper_test a b c d e = grind (arith, nat_tests)

-- row y as a number
abbrev pub row : List ℕ → ℕ → ℕ
row rows y = slice_index_or rows y 0

pub or_fits : (n a b w : ℕ) → w ≡ bit_or a b → FitsWidth n a → FitsWidth n b → FitsWidth n w
or_fits n a b w e h k = rw e (or_lt n a b h k)

-- the intermediate words of `mixed_from`
abbrev pub change : List ℕ → ℕ → ℕ
change rows y = bit_xor (row rows y) (row rows (y + 1))

abbrev pub inner : List ℕ → ℕ → ℕ
inner rows y = bit_or (bit_or (change rows (y + 1)) (change rows (y + 2))) (change rows (y + 3))

pub upper_at : (rows : List ℕ) (y x : ℕ) → not (is_set (bit_or (inner rows y) (change rows y)) x) ≡ is_run (dark_in rows x) y 5
unfolding dark_in
upper_at rows y x = simp (has_or, has_xor, add_assoc) (upper_test (is_set (row rows y) x) (is_set (row rows (y + 1)) x) (is_set (row rows (y + 2)) x) (is_set (row rows (y + 3)) x) (is_set (row rows (y + 4)) x))

-- the intermediate words of `column_finders`
padded_at : (rows : List ℕ) (x k : ℕ) → is_set (padded_row rows k) x ≡ pad (dark_in rows x) k
unfolding dark_in
padded_at rows x zero = has_zero x
padded_at rows x (suc zero) = has_zero x
padded_at rows x (suc (suc zero)) = has_zero x
padded_at rows x (suc (suc (suc zero))) = has_zero x
padded_at rows x (suc (suc (suc (suc k)))) =
    let e : suc (suc (suc (suc k))) - 4 ≡ k = omega arith in
    ap (λ t. is_set (if t then row rows (suc (suc (suc (suc k))) - 4) else 0) x) (le-leb 4 (suc (suc (suc (suc k)))) (omega arith)) ∙ ap (λ i. is_set (row rows i) x) e

abbrev pub columns_alike : List ℕ → ℕ → ℕ
columns_alike rows y = without (bit_and (bit_and (bit_and (row rows y) (row rows (y + 2))) (bit_and (row rows (y + 4)) (row rows (y + 6)))) (row rows (y + 3))) (bit_or (row rows (y + 1)) (row rows (y + 5)))

abbrev pub columns_crowded : List ℕ → ℕ → ℕ
columns_crowded rows y = bit_and (four_rows rows y) (four_rows rows (y + 11))

abbrev pub column_forms : List ℕ → ℕ → ℕ
column_forms rows y = without (columns_alike rows y) (columns_crowded rows y)

-- a finder form in column x, by the rows
abbrev form_of : List ℕ → ℕ → ℕ → Bool
form_of rows y x = (((((dark_in rows x y && dark_in rows x (y + 2)) && (dark_in rows x (y + 4) && dark_in rows x (y + 6))) && dark_in rows x (y + 3)) && not (dark_in rows x (y + 1) || dark_in rows x (y + 5))) && not (four (pad (dark_in rows x)) y && four (pad (dark_in rows x)) (y + 11)))

beside : (rows : List ℕ) (y x n : ℕ) → FitsWidth n (row rows y) → n ≤ x → dark_in rows x y ≡ false
unfolding dark_in
beside rows y x n within h = has_above (row rows y) n x within h

column_form_at : (rows : List ℕ) (x y : ℕ) → is_set (column_forms rows y) x ≡ form_of rows y x
unfolding dark_in
column_form_at rows x y = simp (has_without, has_and, has_or, padded_at)

outside_light : (rows : List ℕ) (x n : ℕ) → length rows ≡ n → (j : ℕ) → n ≤ j → dark_in rows x j ≡ false
unfolding dark_in
outside_light rows x n e j h = ap (λ a. is_set a x) (get_or_past rows j 0 (omega arith)) ∙ has_zero x

pub lone_form_at : (rows : List ℕ) (x y n : ℕ) → length rows ≡ n → is_set (column_forms rows y) x ≡ is_lone_form n (dark_in rows x) y
lone_form_at rows x y n e = column_form_at rows x y ∙ finder_at (dark_in rows x) n (outside_light rows x n e) y

pub lone_form_beside : (rows : List ℕ) (x y n : ℕ) → FitsWidth n (row rows y) → n ≤ x → is_set (column_forms rows y) x ≡ false
lone_form_beside rows x y n within h =
    column_form_at rows x y ∙ ap (λ t. (((((t && dark_in rows x (y + 2)) && (dark_in rows x (y + 4) && dark_in rows x (y + 6))) && dark_in rows x (y + 3)) && not (dark_in rows x (y + 1) || dark_in rows x (y + 5))) && not (four (pad (dark_in rows x)) y && four (pad (dark_in rows x)) (y + 11)))) (beside rows y x n within h)

pub column_finders_of : (rows : List ℕ) (y n : ℕ) → length rows ≡ n → FitsWidth n (row rows y) → 40 * count_ones (column_forms rows y) ≡ sum_below n (λ x. finder_penalty_at n (dark_in rows x) y)
unfolding finder_penalty_at
column_finders_of rows y n e within =
    weigh_places 40 (column_forms rows y) (λ x. is_lone_form n (dark_in rows x) y) n
    (λ x h. lone_form_at rows x y n e)
    (λ x h. lone_form_beside rows x y n within h)

-- the blocks of two rows, if these are rows y and y + 1
pub blocks_shown : (rows : List ℕ) (y n m a b v : ℕ) → m ≡ n → a ≡ row rows y → b ≡ row rows (y + 1) →
    v ≡ sum_below (m - 1) (block_penalty_in (is_set a) (is_set b)) → v ≡ sum_below (n - 1) (block_penalty_at (dark_in rows) y)
unfolding block_penalty_at dark_in
blocks_shown rows y n m a b v e p q h =
    h ∙ ap (λ k. sum_below (k - 1) (block_penalty_in (is_set a) (is_set b))) e ∙ ap₂ (λ (c d : ℕ). sum_below (n - 1) (block_penalty_in (is_set c) (is_set d))) p q
