-- Sums of errors times powers of their places, which are the syndromes of a block that can be corrected.
use Rattle.std.proofs.Common.{◌≡◌, ◌≢◌, ℕ, suc, ◌+◌, ◌-◌, ◌*◌, ◌<◌, inl, inr, refl, sym, ap, ap₂, ◌∙◌, arith, eqb, cond, List, [], ◌∷◌, length, get_or}
use Rattle.std.proofs.lemmas.Bool.{cases_eq, eq-eqb, ne_eqb}
use Rattle.std.specs.Int.Bits.{bit_xor, xor_self, xor_comm}
use Rattle.qrcode_types.specs.Polynomials.{xor_sum}
use Rattle.qrcode_ec.specs.Field.{product, power}
use Rattle.qrcode_ec.specs.Codes.{syndrome, distance}
use Rattle.qrcode_ec.proofs.Xor.{xor_four, same_from_xor, xor_sum_same, xor_sum_none}
use Rattle.qrcode_ec.proofs.Products.{product_assoc, product_comm, product_zero_l, product_one_r, product_xor_l, product_swap}
use Rattle.qrcode_ec.proofs.Powers.{power_zero, power_add}
use Rattle.qrcode_ec.proofs.Syndromes.{syndrome_cons, syndrome_nil}
use Rattle.qrcode_reader.specs.correct.Polynomials.{combined, value_at}
use Rattle.qrcode_reader.specs.correct.Errors.{error_at}
use Rattle.qrcode_reader.proofs.Sums.{xor_sum_last, xor_sum_one, xor_sum_swap, product_sum}
use Rattle.qrcode_reader.proofs.Locators.{zero_or_some, counted, counted_one, counted_none, weight, weight_same}

-- the errors of m places, each times the i-th power of its place
pub moments : ℕ → (ℕ → ℕ) → ℕ → ℕ
moments m errors i = xor_sum m (λ l. product (errors l) (power (i * l)))

-- a combination of moments is the sum of the errors times the polynomial's values at their places
pub combined_moments : (f : List ℕ) (m : ℕ) (errors : ℕ → ℕ) (i : ℕ) → combined f (moments m errors) i ≡ moments m (λ l. product (errors l) (value_at f l)) i
unfolding combined moments
combined_moments f m errors i =
    let n = length f in
    let a = λ (j : ℕ). get_or f j 0 in
    let term = λ (j l : ℕ). product (a j) (product (errors l) (power ((i + j) * l))) in
    xor_sum_same n (λ j. product (a j) (xor_sum m (λ l. product (errors l) (power ((i + j) * l))))) (λ j. xor_sum m (term j))
    (λ j _. product_sum (a j) m (λ l. product (errors l) (power ((i + j) * l))))
    ∙ xor_sum_swap n m term
    ∙ xor_sum_same m (λ l. xor_sum n (λ j. term j l)) (λ l. product (product (errors l) (xor_sum n (λ j. product (a j) (power (l * (0 + j)))))) (power (i * l)))
    (λ l _.
    let p = power (i * l) in
    let q = λ (j : ℕ). power (l * (0 + j)) in
    xor_sum_same n (λ j. term j l) (λ j. product (product (errors l) p) (product (a j) (q j)))
    (λ j _. ap (λ x. product (a j) (product (errors l) x)) (ap power (let e : (i + j) * l ≡ i * l + l * (0 + j) = omega arith in e) ∙ power_add (i * l) (l * (0 + j)))
    ∙ ap (product (a j)) (sym (product_assoc (errors l) p (q j))) ∙ product_swap (a j) (product (errors l) p) (q j))
    ∙ sym (product_sum (product (errors l) p) n (λ j. product (a j) (q j)))
    ∙ product_assoc (errors l) p (xor_sum n (λ j. product (a j) (q j)))
    ∙ ap (product (errors l)) (product_comm p (xor_sum n (λ j. product (a j) (q j))))
    ∙ sym (product_assoc (errors l) (xor_sum n (λ j. product (a j) (q j))) p))

pub moments_none : (m : ℕ) (errors : ℕ → ℕ) (i : ℕ) → ((l : ℕ) → l < m → errors l ≡ 0) → moments m errors i ≡ 0
unfolding moments
moments_none m errors i none =
    xor_sum_none m (λ l. product (errors l) (power (i * l))) (λ l below. ap (λ x. product x (power (i * l))) (none l below) ∙ product_zero_l (power (i * l)))

-- the combination if there is just one error
pub moments_one : (m p : ℕ) (errors : ℕ → ℕ) → p < m → errors p < 256 → ((l : ℕ) → l < m → l ≢ p → errors l ≡ 0) → moments m errors 0 ≡ errors p
unfolding moments
moments_one m p errors below byte none =
    xor_sum_one m p (λ l. product (errors l) (power (0 * l))) below
    (λ l less other. ap (λ x. product x (power (0 * l))) (none l less other) ∙ product_zero_l (power (0 * l)))
    ∙ ap (product (errors p)) (ap power (let e : 0 * p ≡ 0 = omega arith in e) ∙ power_zero) ∙ product_one_r (errors p) byte

-- ---- the errors of a block
error_behind : (r c : ℕ) (rs cs : List ℕ) (l : ℕ) → l < length rs → error_at (r ∷ rs) (c ∷ cs) l ≡ error_at rs cs l
error_behind r c rs cs l below =
    ap (λ k. bit_xor (get_or (r ∷ rs) k 0) (get_or (c ∷ cs) k 0)) (let e : suc (length rs) - 1 - l ≡ suc (length rs - 1 - l) = omega arith in e)

error_first : (r c : ℕ) (rs cs : List ℕ) → error_at (r ∷ rs) (c ∷ cs) (length rs) ≡ bit_xor r c
error_first r c rs cs =
    ap (λ k. bit_xor (get_or (r ∷ rs) k 0) (get_or (c ∷ cs) k 0)) (let e : suc (length rs) - 1 - length rs ≡ 0 = omega arith in e)

-- their moments are the differences of the syndromes
pub moments_errors : (i : ℕ) (rs cs : List ℕ) → length rs ≡ length cs → moments (length rs) (error_at rs cs) i ≡ bit_xor (syndrome i rs) (syndrome i cs)
unfolding moments xor_sum
moments_errors i [] [] same = sym (ap₂ bit_xor (syndrome_nil i) (syndrome_nil i))
moments_errors i [] (c ∷ cs) same = absurd (omega arith)
moments_errors i (r ∷ rs) [] same = absurd (omega arith)
moments_errors i (r ∷ rs) (c ∷ cs) same =
    let m = length rs in
    let k : length rs ≡ length cs = omega arith in
    let p = power (i * m) in
    xor_sum_last m (λ l. product (error_at (r ∷ rs) (c ∷ cs) l) (power (i * l)))
    ∙ ap₂ bit_xor
    (xor_sum_same m (λ l. product (error_at (r ∷ rs) (c ∷ cs) l) (power (i * l))) (λ l. product (error_at rs cs l) (power (i * l)))
    (λ l below. ap (λ x. product x (power (i * l))) (error_behind r c rs cs l below)) ∙ moments_errors i rs cs k)
    (ap (λ x. product x p) (error_first r c rs cs) ∙ product_xor_l r c p)
    ∙ xor_comm (bit_xor (syndrome i rs) (syndrome i cs)) (bit_xor (product r p) (product c p))
    ∙ xor_four (product r p) (product c p) (syndrome i rs) (syndrome i cs)
    ∙ ap₂ bit_xor (sym (syndrome_cons i r rs)) (ap (λ n. bit_xor (product c (power (i * n))) (syndrome i cs)) k ∙ sym (syndrome_cons i c cs))

counted_differs : (r c : ℕ) → counted (bit_xor r c) ≡ cond (eqb r c) 0 1
counted_differs r c = elim (cases_eq r c) [
  | inl same ↦ ap counted (ap (bit_xor r) (sym same) ∙ xor_self r) ∙ counted_none ∙ ap (λ u. cond u 0 1) (sym (eq-eqb r c same))
  | inr other ↦ elim (zero_or_some (bit_xor r c)) [
    | inl none ↦ absurd (other (same_from_xor r c none))
    | inr some ↦ counted_one (bit_xor r c) some ∙ ap (λ u. cond u 0 1) (sym (ne_eqb r c other))
  ]
]

-- there are as many errors as places in which the lists differ
pub weight_errors : (rs cs : List ℕ) → length rs ≡ length cs → weight (length rs) (error_at rs cs) ≡ distance rs cs
unfolding weight
weight_errors [] [] same = refl
weight_errors [] (c ∷ cs) same = absurd (omega arith)
weight_errors (r ∷ rs) [] same = absurd (omega arith)
weight_errors (r ∷ rs) (c ∷ cs) same =
    ap₂ (λ x y. x + y) (ap counted (error_first r c rs cs) ∙ counted_differs r c)
    (weight_same (length rs) (error_at (r ∷ rs) (c ∷ cs)) (error_at rs cs) (λ l below. error_behind r c rs cs l below) ∙ weight_errors rs cs (omega arith))
