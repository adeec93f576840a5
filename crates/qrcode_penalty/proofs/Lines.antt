-- The intermediate words of the code for rows, bit by bit.
use Rattle.std.proofs.Common.{◌≡◌, ℕ, zero, suc, ◌+◌, ◌-◌, ◌*◌, ◌/◌, ◌^◌, ◌<◌, ◌≤◌, Bool, true, false, not, ◌&&◌, ◌||◌, ap, ap₂, sym, ◌∙◌, arith, count_ones, bit_and, bit_or, bit_xor, add_assoc}
use Rattle.std.proofs.lemmas.Nat.{or_lt, pow-add, pow_pos}
use Rattle.std.proofs.Math.Nat.{mul-lt-mul_of_pos_right}
use Rattle.std.proofs.Math.Pow.{pow_mono}
use Rattle.std.specs.Int.Count.{ones}
use Rattle.std.proofs.lemmas.Bool.Decides.{nat_tests}
use Rattle.qrcode_penalty.specs.Rows.{is_set}
use Rattle.qrcode_penalty.proofs.Places.{differ, has_or, has_xor, has_without, has_shr, has_first, has_first_above, below_from_places}
use Rattle.qrcode_penalty.specs.Penalty.{sum_below, count_if, is_run, same, run_penalty}
use Rattle.qrcode_penalty.specs.Padding.{block_penalty_in}
use Rattle.qrcode_penalty.proofs.Runs.{run_penalty-windows}
use Rattle.qrcode_penalty.proofs.Sums.{count_places, weigh_places}
use Rattle.qrcode_penalty.specs.Inside.{three}
use Rattle.qrcode_penalty.proofs.Inside.{shifted_at, inside_sum}

run_test : (a b c d e : Bool) → not ((differ a b || differ b c) || (differ c d || differ d e)) ≡ (same a a && (same a b && (same a c && (same a d && (same a e && true)))))
run_test a b c d e = grind (arith, nat_tests)

pub finder_test : (a b c d e f g q : Bool) → ((((((a && c) && (e && g)) && d) && not (b || f)) && q)) ≡ ((a && not b && c && d && e && not f && g) && q)
finder_test a b c d e f g q = grind (arith, nat_tests)

block_test : (a b c d : Bool) → not (differ a c || (differ a b || differ c d)) ≡ (same a b && same a c && same a d)
block_test a b c d = grind (arith, nat_tests)

-- the intermediate words of `run_penalties`
abbrev pub edges : ℕ → ℕ
edges a = bit_xor a (a / 2 ^ 1)

abbrev pub spread : ℕ → ℕ
spread a = bit_or (bit_or (edges a) (edges a / 2 ^ 1)) (bit_or (edges a) (edges a / 2 ^ 1) / 2 ^ 2)

abbrev pub without : ℕ → ℕ → ℕ
without a b = bit_xor a (bit_and a b)

-- taking bits away from 0 leaves 0
pub none_left : (a b : ℕ) → a ≡ 0 → count_ones (without a b) ≡ 0
unfolding ones
none_left a b h = ap (λ n. count_ones (without n b)) h

spread_at : (a k : ℕ) → not (is_set (spread a) k) ≡ is_run (is_set a) k 5
spread_at a k = simp (has_or, has_xor, has_shr, add_assoc) (run_test (is_set a k) (is_set a (k + 1)) (is_set a (k + 2)) (is_set a (k + 3)) (is_set a (k + 4)))

-- the first n places except those of b
pub without_at : (n b k : ℕ) → k < n → is_set (without (2 ^ n - 1) b) k ≡ not (is_set b k)
without_at n b k h = has_without (2 ^ n - 1) b k ∙ ap (λ t. t && not (is_set b k)) (has_first n k h)

pub without_above : (n b k : ℕ) → n ≤ k → is_set (without (2 ^ n - 1) b) k ≡ false
without_above n b k h = has_without (2 ^ n - 1) b k ∙ ap (λ t. t && not (is_set b k)) (has_first_above n k h)

abbrev pub windows : ℕ → ℕ → ℕ
windows a n = without (2 ^ (n - 4) - 1) (spread a)

-- the places of the windows and the place after each; and with the two places after each
abbrev pub two_places : ℕ → ℕ → ℕ
two_places a n = bit_or (windows a n) (windows a n * 2 ^ 1)

abbrev pub three_places : ℕ → ℕ → ℕ
three_places a n = bit_or (windows a n) (two_places a n * 2 ^ 1)

three_at : (a n k : ℕ) → is_set (three_places a n) k ≡ three (is_set (windows a n)) k
three_at a n zero = shifted_at (windows a n) (two_places a n) 0
three_at a n (suc k) =
    shifted_at (windows a n) (two_places a n) (suc k) ∙ ap (λ t. is_set (windows a n) (suc k) || t) (shifted_at (windows a n) (windows a n) k)

three_above : (a n k : ℕ) → 7 ≤ n → n - 2 ≤ k → is_set (three_places a n) k ≡ false
three_above a n zero room h = absurd (omega (arith, room, h))
three_above a n (suc zero) room h = absurd (omega (arith, room, h))
three_above a n (suc (suc k)) room h =
    let none : (j : ℕ) → k ≤ j → is_set (windows a n) j ≡ false = λ j l. without_above (n - 4) (spread a) j (omega (arith, room, h, l)) in
    three_at a n (suc (suc k)) ∙ ap₂ (λ (x y : Bool). x || y) (none (suc (suc k)) (omega arith)) (ap₂ (λ (x y : Bool). x || y) (none (suc k) (omega arith)) (none k (omega arith)))

pub runs_of : (a n : ℕ) → 7 ≤ n → count_ones (three_places a n) ≡ run_penalty n (is_set a)
runs_of a n room =
    let e : n - 4 + 2 ≡ n - 2 = omega (arith, room) in
    count_places (three_places a n) (three (is_set (windows a n))) (n - 2) (λ k h. three_at a n k) (λ k h. three_above a n k room h)
    ∙ ap (λ m. sum_below m (λ k. count_if (three (is_set (windows a n)) k) 1)) (sym e)
    ∙ inside_sum (is_set a) (is_set (windows a n)) (n - 4) (λ k h. without_at (n - 4) (spread a) k h ∙ spread_at a k) (λ k h. without_above (n - 4) (spread a) k h)
    ∙ sym (run_penalty-windows n (is_set a))

-- the intermediate words of `two_block_penalties`
abbrev pub mixed : ℕ → ℕ → ℕ
mixed a b = bit_or (bit_xor a b) (bit_or (edges a) (edges b))

mixed_at : (a b k : ℕ) → not (is_set (mixed a b) k) ≡ (same (is_set a k) (is_set a (k + 1)) && same (is_set a k) (is_set b k) && same (is_set a k) (is_set b (k + 1)))
mixed_at a b k = simp (has_or, has_xor, has_shr) (block_test (is_set a k) (is_set a (k + 1)) (is_set b k) (is_set b (k + 1)))

pub blocks_of : (a b n : ℕ) → 3 * count_ones (without (2 ^ (n - 1) - 1) (mixed a b)) ≡ sum_below (n - 1) (block_penalty_in (is_set a) (is_set b))
blocks_of a b n =
    weigh_places 3 (without (2 ^ (n - 1) - 1) (mixed a b)) (λ x. same (is_set a x) (is_set a (x + 1)) && same (is_set a x) (is_set b x) && same (is_set a x) (is_set b (x + 1))) (n - 1)
    (λ k h. without_at (n - 1) (mixed a b) k h ∙ mixed_at a b k)
    (λ k h. without_above (n - 1) (mixed a b) k h)

-- the room that these words need
pub fits_up : (a w j room : ℕ) → a < 2 ^ w → w + j ≤ room → a * 2 ^ j < 2 ^ room
fits_up a w j room h k =
    let below : a * 2 ^ j < 2 ^ w * 2 ^ j = mul-lt-mul_of_pos_right h (pow_pos j) in
    omega (arith, below, pow-add 2 w j, pow_mono k)

pub windows_below : (a n : ℕ) → windows a n < 2 ^ (n - 4)
windows_below a n = below_from_places (windows a n) (n - 4) (without_above (n - 4) (spread a))

pub windows_room : (a n room : ℕ) → 7 ≤ n → n + 3 ≤ room → windows a n * 2 ^ 1 < 2 ^ room
windows_room a n room h k = fits_up (windows a n) (n - 4) 1 room (windows_below a n) (omega (arith, h, k))

pub two_room : (a n room : ℕ) → 7 ≤ n → n + 3 ≤ room → two_places a n * 2 ^ 1 < 2 ^ room
two_room a n room h k =
    let wider : 2 ^ (n - 4) ≤ 2 ^ (n - 3) = pow_mono (omega (arith, h)) in
    let low : windows a n < 2 ^ (n - 3) = omega (arith, windows_below a n, wider) in
    let up : windows a n * 2 ^ 1 < 2 ^ (n - 3) = fits_up (windows a n) (n - 4) 1 (n - 3) (windows_below a n) (omega (arith, h)) in
    fits_up (two_places a n) (n - 3) 1 room (or_lt (n - 3) (windows a n) (windows a n * 2 ^ 1) low up) (omega (arith, h, k))
