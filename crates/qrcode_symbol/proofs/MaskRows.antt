-- Rows of a mask: they repeat every six columns, and the mask every twelve rows.
use Rattle.std.proofs.Common.{◌≡◌, ℕ, zero, suc, ◌+◌, ◌*◌, ◌/◌, ◌%◌, ◌^◌, ◌<◌, Bool, true, false, ◌&&◌, ◌==◌, refl, ap, ap₂, sym, ◌∙◌, arith, below_more, add-mul, mul_assoc, mul_comm, [], slice_index_or, nat_lt}
use Rattle.std.proofs.Math.Nat.{mul-add}
use Rattle.std.proofs.lemmas.Nat.{shr_split}
use Rattle.std.proofs.lemmas.Nat.Bits.{bit_at_cat_low}
use Rattle.std.specs.Int.{bit_at}
use Rattle.std.proofs.lemmas.Bool.Decides.{nat_tests}
use Rattle.qrcode_layout.proofs.Formats.{mask_number-lt}
use Rattle.qrcode_penalty.specs.Rows.{is_set}
use Rattle.qrcode_penalty.specs.Penalty.{same}
use Rattle.qrcode_layout.specs.Masks.{turns, mask_number}
use Rattle.qrcode_symbol.specs.Masking.{three_words}
use borrow.Author.Tests.{ltb-true}
use Rattle.qrcode_symbol.specs.declared.canvas.masked_rows.TheConstants.{TURNED}
use Rattle.qrcode_layout.specs.declared.masks.MaskPattern.{MaskPattern}
use Rattle.qrcode_layout.specs.declared.masks.MaskPattern.TheVariants.{Checkerboard, HorizontalLines, VerticalLines, DiagonalLines, LargeCheckerboard, Fields, Diamonds, Meadow}

-- the bits of a number that is cut to some room
pub has_mod : (n room k : ℕ) → k < room → is_set (n % 2 ^ room) k ≡ is_set n k
unfolding is_set
has_mod n room k h = ap (λ x. x == 1) (sym (bit_at_cat_low (n / 2 ^ room) room (n % 2 ^ room) k h) ∙ ap (λ m. bit_at m k) (shr_split n room))

and_l : (a b : Bool) → (a && b) ≡ true → a ≡ true
and_l a b h1 = grind (arith, nat_tests)

and_r : (a b : Bool) → (a && b) ≡ true → b ≡ true
and_r a b h1 = grind (arith, nat_tests)

same_true : (a b : Bool) → same a b ≡ true → a ≡ b
same_true true b e = sym e
same_true false true e = cc
same_true false false e = refl

-- the test passes for all numbers below n
pub all_below : ℕ → (ℕ → Bool) → Bool
all_below zero f = true
all_below (suc n) f = all_below n f && f n

all_holds : (n : ℕ) (f : ℕ → Bool) → all_below n f ≡ true → (k : ℕ) → k < n → f k ≡ true
unfolding all_below
all_holds zero f e k h = absurd (omega arith)
all_holds (suc n) f e k h = below_more (λ k. f k ≡ true) n (λ k l. all_holds n f (and_l (all_below n f) (f n) e) k l) (and_r (all_below n f) (f n) e) k (omega arith)

-- six bits repeated over 192 columns, as `repeat` makes them
abbrev pub repeated_words : ℕ → ℕ
repeated_words six = three_words (six * 0x1041041041041041 % 2 ^ 64)

table : all_below 64 (λ six. all_below 192 (λ k. same (is_set (repeated_words six) k) (is_set six (k % 6)))) ≡ true
unfolding is_set all_below
table = refl

pub has_repeated : (six k : ℕ) → six < 64 → k < 192 → is_set (repeated_words six) k ≡ is_set six (k % 6)
has_repeated six k h l =
    same_true (is_set (repeated_words six) k) (is_set six (k % 6))
    (all_holds 192 (λ k. same (is_set (repeated_words six) k) (is_set six (k % 6))) (all_holds 64 (λ six. all_below 192 (λ k. same (is_set (repeated_words six) k) (is_set six (k % 6)))) table six h) k l)

fields_step : (x y : ℕ) → x * y ≡ 6 * (x / 6 * y) + x % 6 * y
fields_step x y =
    let e : x ≡ 6 * (x / 6) + x % 6 = omega arith in
    ap (λ n. n * y) e ∙ add-mul (6 * (x / 6)) (x % 6) y ∙ ap (λ n. n + x % 6 * y) (mul_assoc 6 (x / 6) y)

two_step : (x y : ℕ) → x % 6 * y % 2 ≡ x * y % 2
two_step x y = omega (arith, fields_step x y)

three_step : (x y : ℕ) → x % 6 * y % 3 ≡ x * y % 3
three_step x y = omega (arith, fields_step x y)

-- a mask repeats every six columns
pub periodic : (p : MaskPattern) (x y : ℕ) → turns p (x % 6) y ≡ turns p x y
periodic Checkerboard x y = let e : (x % 6 + y) % 2 ≡ (x + y) % 2 = omega arith in ap (λ n. n == 0) e
periodic HorizontalLines x y = refl
periodic VerticalLines x y = let e : x % 6 % 3 ≡ x % 3 = omega arith in ap (λ n. n == 0) e
periodic DiagonalLines x y = let e : (x % 6 + y) % 3 ≡ (x + y) % 3 = omega arith in ap (λ n. n == 0) e
periodic LargeCheckerboard x y = let e : (y / 2 + x % 6 / 3) % 2 ≡ (y / 2 + x / 3) % 2 = omega arith in ap (λ n. n == 0) e
periodic Fields x y = ap₂ (λ (a b : ℕ). a + b == 0) (two_step x y) (three_step x y)
periodic Diamonds x y = ap₂ (λ (a b : ℕ). (a + b) % 2 == 0) (two_step x y) (three_step x y)
periodic Meadow x y = let e : (x % 6 + y) % 2 ≡ (x + y) % 2 = omega arith in ap₂ (λ (a b : ℕ). (a + b) % 2 == 0) e (three_step x y)

-- and every twelve rows
rows_step : (x y : ℕ) → x * y ≡ 12 * (x * (y / 12)) + x * (y % 12)
rows_step x y =
    let e : y ≡ 12 * (y / 12) + y % 12 = omega arith in
    ap (λ n. x * n) e ∙ mul-add x (12 * (y / 12)) (y % 12) ∙ ap (λ n. n + x * (y % 12)) (sym (mul_assoc x 12 (y / 12)) ∙ ap (λ n. n * (y / 12)) (mul_comm x 12) ∙ mul_assoc 12 x (y / 12))

rows_two : (x y : ℕ) → x * (y % 12) % 2 ≡ x * y % 2
rows_two x y = omega (arith, rows_step x y)

rows_three : (x y : ℕ) → x * (y % 12) % 3 ≡ x * y % 3
rows_three x y = omega (arith, rows_step x y)

pub rows_periodic : (p : MaskPattern) (x y : ℕ) → turns p x (y % 12) ≡ turns p x y
rows_periodic Checkerboard x y = let e : (x + y % 12) % 2 ≡ (x + y) % 2 = omega arith in ap (λ n. n == 0) e
rows_periodic HorizontalLines x y = let e : y % 12 % 2 ≡ y % 2 = omega arith in ap (λ n. n == 0) e
rows_periodic VerticalLines x y = refl
rows_periodic DiagonalLines x y = let e : (x + y % 12) % 3 ≡ (x + y) % 3 = omega arith in ap (λ n. n == 0) e
rows_periodic LargeCheckerboard x y = let e : (y % 12 / 2 + x / 3) % 2 ≡ (y / 2 + x / 3) % 2 = omega arith in ap (λ n. n == 0) e
rows_periodic Fields x y = ap₂ (λ (a b : ℕ). a + b == 0) (rows_two x y) (rows_three x y)
rows_periodic Diamonds x y = ap₂ (λ (a b : ℕ). (a + b) % 2 == 0) (rows_two x y) (rows_three x y)
rows_periodic Meadow x y = let e : (x + y % 12) % 2 ≡ (x + y) % 2 = omega arith in ap₂ (λ (a b : ℕ). (a + b) % 2 == 0) e (rows_three x y)

-- the table `TURNED` of the code: six columns of twelve rows of each mask
turned_table : (p : MaskPattern) → all_below 12 (λ y. all_below 6 (λ x. same (is_set (slice_index_or (slice_index_or TURNED (mask_number p) []) y 0) x) (turns p x y))) ≡ true
unfolding is_set all_below
turned_table Checkerboard = refl
turned_table HorizontalLines = refl
turned_table VerticalLines = refl
turned_table DiagonalLines = refl
turned_table LargeCheckerboard = refl
turned_table Fields = refl
turned_table Diamonds = refl
turned_table Meadow = refl

small_table : all_below 8 (λ n. all_below 12 (λ y. nat_lt (slice_index_or (slice_index_or TURNED n []) y 0) 64)) ≡ true
unfolding all_below
small_table = refl

pub six_at : (p : MaskPattern) (x y : ℕ) → x < 6 → y < 12 → is_set (slice_index_or (slice_index_or TURNED (mask_number p) []) y 0) x ≡ turns p x y
six_at p x y h l =
    let test = λ (y x : ℕ). same (is_set (slice_index_or (slice_index_or TURNED (mask_number p) []) y 0) x) (turns p x y) in
    same_true (is_set (slice_index_or (slice_index_or TURNED (mask_number p) []) y 0) x) (turns p x y)
    (all_holds 6 (test y) (all_holds 12 (λ y. all_below 6 (test y)) (turned_table p) y l) x h)

pub six_small : (p : MaskPattern) (y : ℕ) → y < 12 → slice_index_or (slice_index_or TURNED (mask_number p) []) y 0 < 64
six_small p y l =
    let test = λ (n y : ℕ). nat_lt (slice_index_or (slice_index_or TURNED n []) y 0) 64 in
    ltb-true _ _ (all_holds 12 (test (mask_number p)) (all_holds 8 (λ n. all_below 12 (test n)) small_table (mask_number p) (mask_number-lt p)) y l)
