-- Numbers and lists of bits determine each other.
use Rattle.std.proofs.Common.{◌≡◌, ℕ, zero, suc, ◌+◌, ◌-◌, ◌*◌, ◌^◌, ◌<◌, ◌==◌, Bool, true, false, cond, List, [], ◌∷◌, length, get_or, sym, ap, ◌∙◌, arith, subst, inl, inr}
use Rattle.std.specs.Prelude.{fold}
use Rattle.std.specs.Int.{bit_at}
use Rattle.std.proofs.Math.Nat.{pow-suc}
use Rattle.std.proofs.lemmas.Bool.{cases_eq, eqb-true, eq-eqb}
use Rattle.std.proofs.lemmas.Nat.Bits.{bit_at_cat_low, bit_at_cat_high, same_from_bits_below, bit_at-lt}
use Rattle.std.proofs.lemmas.List.{ext_get_or}
use Rattle.std.proofs.lemmas.Bool.Decides.{nat_tests}
use Rattle.qrcode_types.specs.Bits.{number_bits, number_of, has_bit}
use Rattle.qrcode_symbol.proofs.BitLists.{length_number_bits, number_bits_at}

one : Bool → ℕ
one b = cond b 1 0

value : List Bool → ℕ
value [] = 0
value (b ∷ bs) = one b * 2 ^ length bs + value bs

twice : (n o p v : ℕ) → (2 * n + o) * p + v ≡ n * (p * 2) + (o * p + v)
twice n o p v = omega arith

fold_value : (n : ℕ) (bs : List Bool) → fold (λ n b. 2 * n + cond b 1 0) n bs ≡ n * 2 ^ length bs + value bs
unfolding value one
fold_value n [] = omega arith
fold_value n (b ∷ bs) =
    fold_value (2 * n + cond b 1 0) bs ∙ twice n (cond b 1 0) (2 ^ length bs) (value bs) ∙ ap (λ p. n * p + (cond b 1 0 * 2 ^ length bs + value bs)) (sym (pow-suc 2 (length bs)))

value_small : (bs : List Bool) → value bs < 2 ^ length bs
unfolding value one
value_small [] = omega arith
value_small (true ∷ bs) = omega (arith, value_small bs, pow-suc 2 (length bs))
value_small (false ∷ bs) = omega (arith, value_small bs, pow-suc 2 (length bs))

first_bit : (b : Bool) → bit_at (one b) 0 ≡ one b
unfolding one
first_bit b = grind (arith, nat_tests)

one_is : (b : Bool) → (one b == 1) ≡ b
unfolding one
one_is b = grind (arith, nat_tests)

value_bit : (bs : List Bool) (i : ℕ) → i < length bs → bit_at (value bs) (length bs - 1 - i) ≡ one (get_or bs i false)
unfolding value
value_bit [] i h = absurd (omega arith)
value_bit (b ∷ bs) zero h =
    let k = length bs in
    let z : suc k - 1 - 0 ≡ k = omega arith in
    let y : k - k ≡ 0 = omega arith in
    ap (bit_at (one b * 2 ^ k + value bs)) z ∙ bit_at_cat_high (one b) k (value bs) k (value_small bs) (omega arith) ∙ ap (bit_at (one b)) y ∙ first_bit b
value_bit (b ∷ bs) (suc i) h =
    let k = length bs in
    let z : suc k - 1 - suc i ≡ k - 1 - i = omega arith in
    ap (bit_at (one b * 2 ^ k + value bs)) z ∙ bit_at_cat_low (one b) k (value bs) (k - 1 - i) (omega arith) ∙ value_bit bs i (omega arith)

number_value : (bs : List Bool) → number_of bs ≡ value bs
unfolding number_of
number_value bs = fold_value 0 bs ∙ (let z : 0 * 2 ^ length bs + value bs ≡ value bs = omega arith in z)

-- from bits to their number and back
bits_of_number : (count : ℕ) (bs : List Bool) → length bs ≡ count → number_bits count (number_of bs) ≡ bs
bits_of_number count bs l =
    ext_get_or false (number_bits count (number_of bs)) bs (length_number_bits count (number_of bs) ∙ sym l)
    (λ i h.
    let lt : i < count = omega (arith, length_number_bits count (number_of bs), h) in
    let z : count - 1 - i ≡ length bs - 1 - i = omega arith in
    number_bits_at count (number_of bs) i lt
    ∙ ap (λ x. bit_at x (count - 1 - i) == 1) (number_value bs) ∙ ap (λ j. bit_at (value bs) j == 1) z
    ∙ ap (λ x. x == 1) (value_bit bs i (omega arith)) ∙ one_is (get_or bs i false))

pub number_small : (bs : List Bool) → number_of bs < 2 ^ length bs
number_small bs = subst (λ n. n < 2 ^ length bs) (sym (number_value bs)) (value_small bs)

same_bit : (x y : ℕ) → x < 2 → y < 2 → (x == 1) ≡ (y == 1) → x ≡ y
same_bit x y p q e = elim (cases_eq x 1) [
  | inl f ↦ f ∙ sym (eqb-true y 1 (sym e ∙ eq-eqb x 1 f))
  | inr f ↦ elim (cases_eq y 1) [ inl g ↦ eqb-true x 1 (e ∙ eq-eqb y 1 g) ∙ sym g | inr g ↦ omega (arith, f, g) ]
]

same_bits : (count a b : ℕ) → number_bits count a ≡ number_bits count b → (i : ℕ) → i < count → bit_at a i ≡ bit_at b i
same_bits count a b e i h =
    let j = count - 1 - i in
    let l : j < count = omega arith in
    let back : count - 1 - j ≡ i = omega arith in
    let f : has_bit a (count - 1 - j) ≡ has_bit b (count - 1 - j) = sym (number_bits_at count a j l) ∙ ap (λ bs. get_or bs j false) e ∙ number_bits_at count b j l in
    let g : has_bit a i ≡ has_bit b i = subst (λ x. has_bit a x ≡ has_bit b x) back f in
    same_bit (bit_at a i) (bit_at b i) (bit_at-lt a i) (bit_at-lt b i) g

-- from a number to its bits and back
pub number_of_bits : (count n : ℕ) → n < 2 ^ count → number_of (number_bits count n) ≡ n
number_of_bits count n h =
    let bs = number_bits count n in
    let l = length_number_bits count n in
    same_from_bits_below count (number_of bs) n (subst (λ k. number_of bs < 2 ^ k) l (number_small bs)) h (same_bits count (number_of bs) n (bits_of_number count bs l))
