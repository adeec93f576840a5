-- Where the bytes of blocks are, by row and column.
use Rattle.std.proofs.Common.{◌≡◌, ℕ, ◌+◌, ◌*◌, ◌-◌, ◌<◌, ◌≤◌, nat_le, nat_lt, min, cond, List, ◌++◌, length, take, get_or, replicate, inl, inr, sym, ap, ap₂, ◌∙◌, arith}
use Rattle.std.specs.List.{sum_by, count_by}
use Rattle.std.proofs.Math.Seq.{take-append-add}
use Rattle.std.proofs.lemmas.Bool.{cases_lt, lt-ltb, le-ltb}
use Rattle.std.proofs.lemmas.Bool.Decides.{leb_tells}
use Rattle.std.proofs.lemmas.List.{take-append-le, take-replicate, length-replicate, get_or-replicate, get_or_append_left, get_or-append_right, append-nil}
use Rattle.std.proofs.lemmas.List.Folds.{sum_by-replicate}
use Rattle.std.proofs.lemmas.List.Sums.{sum_by-append}
use Rattle.qrcode_ec.specs.Blocks.{interleaved_place}

-- 1 if m is less than n, otherwise 0
abbrev less : ℕ → ℕ → ℕ
less m n = cond (nat_lt m n) 1 0

-- the lengths of short blocks and of long ones
abbrev pub short_and_long : ℕ → ℕ → ℕ → List ℕ
short_and_long short long s = replicate short s ++ replicate long (s + 1)

first_lengths : (short long s b : ℕ) → b ≤ short + long → take b (short_and_long short long s) ≡ short_and_long (min b short) (b - short) s
first_lengths short long s b most =
    let shorts = replicate short s in
    let longs = replicate long (s + 1) in
    let count : length shorts ≡ short = length-replicate short s in
    elim (cases_lt short b) [
      | inl more ↦
          let at : b ≡ length shorts + (b - short) = omega (arith, count) in
          let all : short ≡ min b short = omega arith in
          ap (λ n. take n (shorts ++ longs)) at ∙ take-append-add shorts longs (b - short)
          ∙ ap₂ (λ n rest. replicate n s ++ rest) all (take-replicate (b - short) long (s + 1) (omega arith))
      | inr few ↦
          let all : b ≡ min b short = omega arith in
          let none : 0 ≡ b - short = omega arith in
          take-append-le b shorts longs (omega (arith, count)) ∙ take-replicate b short s few
          ∙ ap (λ n. replicate n s) all ∙ no_more (replicate (min b short) s) (b - short) (s + 1) (sym none)
    ]
  where
    no_more : (xs : List ℕ) (n x : ℕ) → n ≡ 0 → xs ≡ xs ++ replicate n x
    no_more xs n x none = sym (ap (λ k. xs ++ replicate k x) none ∙ append-nil xs)

-- a sum over such lengths
over_lengths : (f : ℕ → ℕ) (short long s : ℕ) → sum_by f (short_and_long short long s) ≡ short * f s + long * f (s + 1)
over_lengths f short long s =
    sum_by-append f (replicate short s) (replicate long (s + 1)) ∙ ap₂ (λ x y. x + y) (sum_by-replicate f short s) (sum_by-replicate f long (s + 1))

place_is : (short long s i b : ℕ) → b ≤ short + long → interleaved_place (short_and_long short long s) i b
    ≡ (short * min s i + long * min (s + 1) i) + (min b short * less i s + (b - short) * less i (s + 1))
unfolding interleaved_place
place_is short long s i b most =
    ap₂ (λ x y. x + y) (over_lengths (λ n. min n i) short long s)
    (ap (count_by (nat_lt i)) (first_lengths short long s b most) ∙ over_lengths (λ n. less i n) (min b short) (b - short) s)

-- a byte that each block has
pub row_place : (short long s i b : ℕ) → i < s → b < short + long → interleaved_place (short_and_long short long s) i b ≡ i * (short + long) + b
row_place short long s i b within exists =
    let a : min s i ≡ i = omega arith in
    let d : min (s + 1) i ≡ i = omega arith in
    let one : less i s ≡ 1 = below i s within in
    let two : less i (s + 1) ≡ 1 = below i (s + 1) (omega arith) in
    place_is short long s i b (omega arith)
    ∙ ap₂ (λ x y. (short * x + long * y) + (min b short * less i s + (b - short) * less i (s + 1))) a d
    ∙ ap₂ (λ x y. (short * i + long * i) + (min b short * x + (b - short) * y)) one two
    ∙ omega arith
  where
    below : (m n : ℕ) → m < n → less m n ≡ 1
    below m n l = ap {B = ℕ} (λ t. cond t 1 0) (lt-ltb m n l)

-- the last byte of a long block
pub end_place : (short long s b : ℕ) → short ≤ b → b < short + long → interleaved_place (short_and_long short long s) s b ≡ s * (short + long) + (b - short)
end_place short long s b most exists =
    let a : min s s ≡ s = omega arith in
    let d : min (s + 1) s ≡ s = omega arith in
    let none : less s s ≡ 0 = ap {B = ℕ} (λ t. cond t 1 0) (le-ltb s s (omega arith)) in
    let one : less s (s + 1) ≡ 1 = ap {B = ℕ} (λ t. cond t 1 0) (lt-ltb s (s + 1) (omega arith)) in
    place_is short long s s b (omega arith)
    ∙ ap₂ (λ x y. (short * x + long * y) + (min b short * less s s + (b - short) * less s (s + 1))) a d
    ∙ ap₂ (λ x y. (short * s + long * s) + (min b short * x + (b - short) * y)) none one
    ∙ omega arith

-- the length of a block
pub length_at : (short long s b : ℕ) → b < short + long → get_or (short_and_long short long s) b 0 ≡ s + cond (nat_le short b) 1 0
length_at short long s b exists =
    let shorts = replicate short s in
    let longs = replicate long (s + 1) in
    let count : length shorts ≡ short = length-replicate short s in
    elim (leb_tells short b) [
      | inl most ↦ get_or-append_right shorts longs short b 0 count most.1 ∙ get_or-replicate long (b - short) (s + 1) 0 (omega (arith, most.1))
          ∙ ap {B = ℕ} (λ t. s + cond t 1 0) (sym most.0)
      | inr less ↦ get_or_append_left shorts longs 0 b (omega (arith, count, less.1)) ∙ get_or-replicate short b s 0 less.1
          ∙ (let z : s ≡ s + 0 = omega arith in z) ∙ ap {B = ℕ} (λ t. s + cond t 1 0) (sym less.0)
    ]
