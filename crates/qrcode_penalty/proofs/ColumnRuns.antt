-- The runs of columns, by words whose bit x is set if no run of five begins in column x.
use Rattle.std.proofs.Common.{◌≡◌, ℕ, ◌<◌, Bool, true, false, not, ◌&&◌, ◌||◌, refl, ap, ap₂, ◌∙◌, arith, bit_and}
use Rattle.std.proofs.lemmas.Nat.{and_le_l}
use Rattle.qrcode_penalty.specs.Rows.{is_set, FitsWidth}
use Rattle.qrcode_penalty.proofs.Places.{has_and}
use Rattle.qrcode_penalty.specs.Penalty.{sum_below, count_if}
use Rattle.qrcode_penalty.proofs.Sums.{sum_same}
use Rattle.qrcode_penalty.specs.Inside.{before, two, run_from, inside_row}

neither_case : (p q : Bool) → (not p && not q) ≡ not (q || p)
neither_case true true = refl
neither_case true false = refl
neither_case false true = refl
neither_case false false = refl

twice : (p : Bool) → not (not p) ≡ p
twice true = refl
twice false = refl

pub turned : (a p : Bool) → not a ≡ p → a ≡ not p
turned true p h = ap not h
turned false p h = ap not h

-- a word whose set bits, among m columns, are those where a test fails
abbrev pub Bars : ℕ → ℕ → (ℕ → Bool) → Type 0
Bars m word test = (x : ℕ) → x < m → is_set word x ≡ not (test x)

-- what such a word counts
pub counted_row : (m word : ℕ) (test : ℕ → Bool) → Bars m word test → sum_below m (λ x. count_if (not (is_set word x)) 1) ≡ sum_below m (λ x. count_if (test x) 1)
counted_row m word test bars = sum_same _ _ m (λ x h. ap (λ t. count_if t 1) (ap not (bars x h) ∙ twice (test x)))

-- what is common to two such words bars what either shows
pub common : (m a b c : ℕ) (p q : ℕ → Bool) → c ≡ bit_and a b → Bars m a p → Bars m b q → Bars m c (λ x. q x || p x)
common m a b c p q e bars_a bars_b = λ x h.
    ap (λ w. is_set w x) e ∙ has_and a b x ∙ ap₂ (λ (s t : Bool). s && t) (bars_a x h) (bars_b x h) ∙ neither_case (p x) (q x)

-- a row of three windows, the first two of them combined
pub inside_upper : (dark : ℕ → ℕ → Bool) (m y a b c : ℕ) → c ≡ bit_and a b → Bars m a (λ x. before (two (run_from dark x)) y) → Bars m b (λ x. run_from dark x y) →
    sum_below m (λ x. count_if (not (is_set c x)) 1) ≡ inside_row dark m y
inside_upper dark m y a b c e bars_a bars_b =
    counted_row m c (λ x. run_from dark x y || before (two (run_from dark x)) y) (common m a b c (λ x. before (two (run_from dark x)) y) (λ x. run_from dark x y) e bars_a bars_b)

pub and_fits : (n a b c : ℕ) → c ≡ bit_and a b → FitsWidth n a → FitsWidth n c
and_fits n a b c e h = rw e (omega (arith, and_le_l a b, h))
