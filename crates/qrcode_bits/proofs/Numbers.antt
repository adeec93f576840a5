-- Numbers are read from their bits.
use Rattle.std.proofs.Common.{◌≡◌, ℕ, zero, suc, ◌+◌, ◌*◌, ◌/◌, ◌^◌, ◌<◌, ◌==◌, Bool, true, false, List, [], ◌∷◌, ◌++◌, length, get_or, refl, sym, ap, ap₂, ◌∙◌, arith, inl, inr}
use Rattle.std.specs.Int.{bit_at}
use Rattle.std.proofs.lemmas.Nat.Bits.{same_from_bits_below, bit_at-lt}
use Rattle.std.proofs.lemmas.Nat.{shr_below, shr_split, mod_below, pow_pos}
use Rattle.std.proofs.lemmas.Bool.{cases_eq, eqb-true, eq-eqb}
use Rattle.qrcode_types.specs.Bits.{number_bits}

pub length-number_bits : (count n : ℕ) → length (number_bits count n) ≡ count
unfolding number_bits
length-number_bits zero n = refl
length-number_bits (suc count) n = ap suc (length-number_bits count n)

-- equal lists, split after the same number of items
pub same_front : {X : Type 0} (a b x y : List X) → length a ≡ length b → a ++ x ≡ b ++ y → (a ≡ b) × (x ≡ y)
same_front [] [] x y l e = (refl, e)
same_front [] (b ∷ v) x y l e = cc
same_front (a ∷ u) [] x y l e = cc
same_front {X = X} (a ∷ u) (b ∷ v) x y l e =
    let heads : a ≡ b = cc in
    let tails : u ++ x ≡ v ++ y = cc in
    let r = same_front u v x y (omega arith) tails in
    (ap₂ (λ (h : X) (t : List X). h ∷ t) heads r.0, r.1)

same_bit : (x y : ℕ) → x < 2 → y < 2 → (x == 1) ≡ (y == 1) → x ≡ y
same_bit x y p q e = elim (cases_eq x 1) [
  | inl f ↦ f ∙ sym (eqb-true y 1 (sym e ∙ eq-eqb x 1 f))
  | inr f ↦ elim (cases_eq y 1) [ inl g ↦ eqb-true x 1 (e ∙ eq-eqb y 1 g) ∙ sym g | inr g ↦ omega (arith, f, g) ]
]

number_bits-same : (count a b : ℕ) → number_bits count a ≡ number_bits count b → (i : ℕ) → i < count → bit_at a i ≡ bit_at b i
unfolding number_bits
number_bits-same zero a b e i h = absurd (omega arith)
number_bits-same (suc count) a b e i h =
    let top : (bit_at a count == 1) ≡ (bit_at b count == 1) = cc in
    let rest : number_bits count a ≡ number_bits count b = cc in
    elim (cases_eq i count) [
      | inl same ↦ ap (λ n. bit_at a n) same ∙ same_bit (bit_at a count) (bit_at b count) (bit_at-lt a count) (bit_at-lt b count) top ∙ ap (λ n. bit_at b n) (sym same)
      | inr other ↦ number_bits-same count a b rest i (omega (arith, h, other))
    ]

-- a number of a fixed width is read from its bits
pub same_number : (count a b : ℕ) (x y : List Bool) → a < 2 ^ count → b < 2 ^ count → number_bits count a ++ x ≡ number_bits count b ++ y → (a ≡ b) × (x ≡ y)
same_number count a b x y p q e =
    let r = same_front (number_bits count a) (number_bits count b) x y (length-number_bits count a ∙ sym (length-number_bits count b)) e in
    (same_from_bits_below count a b p q (number_bits-same count a b r.0), r.1)

-- a number that is not 0 has a one among its bits
pub has_one : (count n : ℕ) → n < 2 ^ count → 0 < n → (i : ℕ) × (i < count) × (get_or (number_bits count n) i false ≡ true)
unfolding number_bits
has_one zero n h p = absurd (omega arith)
has_one (suc count) n h p = elim (cases_eq (bit_at n count) 1) [
  | inl e ↦ (0, omega arith, eq-eqb (bit_at n count) 1 e)
  | inr e ↦
      let z : bit_at n count ≡ 0 = omega (arith, bit_at-lt n count, e) in
      let q : n / 2 ^ count < 2 ^ 1 = shr_below n 1 count (let d : 1 + count ≡ suc count = omega arith in rw d h) in
      let y : n / 2 ^ count ≡ 0 = omega (arith, q, z) in
      let small : n < 2 ^ count = omega (arith, shr_split n count, mod_below n (2 ^ count) (pow_pos count), ap (λ x. x * 2 ^ count) y) in
      let r = has_one count n small p in
      (suc r.0, omega (arith, r.1), r.2)
]
