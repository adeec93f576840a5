-- Polynomials that are zero at given places, and quotients by x - point.
use Rattle.std.proofs.Common.{◌≡◌, ◌≢◌, ℕ, zero, suc, ◌+◌, ◌*◌, ◌<◌, ◌≤◌, ◌⊎◌, inl, inr, refl, sym, ap, ap₂, ◌∙◌, arith, subst, eqb, cond, List, [], ◌∷◌, length, get_or}
use Rattle.std.proofs.lemmas.Bool.{cases_lt, eq-eqb, ne_eqb}
use Rattle.std.specs.Int.Bits.{bit_xor, xor_assoc, xor_self, xor_lt, xor_zero_r}
use Rattle.qrcode_types.specs.Polynomials.{xor_sum}
use Rattle.qrcode_ec.specs.Field.{product, power}
use Rattle.qrcode_ec.proofs.Xor.{xor_sum_same, same_from_xor}
use Rattle.qrcode_ec.proofs.Products.{product_zero_l, product_zero_r, product_one_r, product_xor_l, product_swap}
use Rattle.qrcode_ec.proofs.Powers.{power_lt, power_zero, power_add, power_injective, no_zero_divisor}
use Rattle.qrcode_reader.specs.correct.Polynomials.{combined, value_at, EndsAt, IsDivision}
use Rattle.qrcode_reader.proofs.Sums.{combined_sum, combined_lt, product_sum}

pub zero_or_some : (a : ℕ) → (a ≡ 0) ⊎ (0 < a)
zero_or_some zero = inl refl
zero_or_some (suc a) = inr (omega arith)

pub product_some : (a b : ℕ) → 0 < a → a < 256 → 0 < b → b < 256 → 0 < product a b
product_some a b p q r s = elim (zero_or_some (product a b)) [
  | inl none ↦ absurd (omega (arith, no_zero_divisor a b p q s none))
  | inr some ↦ some
]

-- ---- values
-- the value of a polynomial times x
value_raised : (f : List ℕ) (l : ℕ) → combined f (λ j. power (l * j)) 1 ≡ product (power l) (value_at f l)
unfolding combined
value_raised f l =
    let n = length f in
    xor_sum_same n (λ j. product (get_or f j 0) (power (l * (1 + j)))) (λ j. product (power l) (product (get_or f j 0) (power (l * (0 + j)))))
    (λ j _. ap (product (get_or f j 0)) (ap power (let e : l * (1 + j) ≡ l + l * (0 + j) = omega arith in e) ∙ power_add l (l * (0 + j)))
    ∙ product_swap (get_or f j 0) (power l) (power (l * (0 + j))))
    ∙ sym (product_sum (power l) n (λ j. product (get_or f j 0) (power (l * (0 + j)))))

-- the value of a polynomial times x, plus its lowest coefficient
value_cons : (a : ℕ) (f : List ℕ) (l : ℕ) → a < 256 → value_at (a ∷ f) l ≡ bit_xor a (product (power l) (value_at f l))
unfolding combined xor_sum
value_cons a f l small =
    ap₂ bit_xor (ap (λ k. product a (power k)) (let e : l * (0 + 0) ≡ 0 = omega arith in e) ∙ ap (product a) power_zero ∙ product_one_r a small)
    (xor_sum_same (length f) (λ j. product (get_or f j 0) (power (l * (0 + suc j)))) (λ j. product (get_or f j 0) (power (l * (1 + j))))
    (λ j _. ap (λ k. product (get_or f j 0) (power k)) (let e : l * (0 + suc j) ≡ l * (1 + j) = omega arith in e))
    ∙ value_raised f l)

-- the value of a polynomial by its quotient and rest
pub value_divided : (f q : List ℕ) (p rest l : ℕ) → rest < 256 → IsDivision f (power p) q rest
    → value_at f l ≡ bit_xor rest (product (bit_xor (power l) (power p)) (value_at q l))
value_divided f q p rest l small is =
    combined_sum (power p) (rest ∷ q) q f (λ j. power (l * j)) 0 is.at
    ∙ ap (λ x. bit_xor x (product (power p) (value_at q l))) (value_cons rest q l small)
    ∙ xor_assoc rest (product (power l) (value_at q l)) (product (power p) (value_at q l))
    ∙ ap (bit_xor rest) (sym (product_xor_l (power l) (power p) (value_at q l)))

-- its value at the point itself is the rest
pub value_rest : (f q : List ℕ) (p rest : ℕ) → rest < 256 → IsDivision f (power p) q rest → value_at f p ≡ rest
value_rest f q p rest small is =
    value_divided f q p rest p small is
    ∙ ap (bit_xor rest) (ap (λ x. product x (value_at q p)) (xor_self (power p)) ∙ product_zero_l (value_at q p)) ∙ xor_zero_r rest

difference_some : (l p : ℕ) → l < 255 → p < 255 → l ≢ p → 0 < bit_xor (power l) (power p)
difference_some l p small less other = elim (zero_or_some (bit_xor (power l) (power p))) [
  | inl none ↦ absurd (other (power_injective l p small less (same_from_xor (power l) (power p) none)))
  | inr some ↦ some
]

difference_lt : (l p : ℕ) → bit_xor (power l) (power p) < 256
difference_lt l p = xor_lt 8 (power l) (power p) (power_lt l) (power_lt p)

-- another zero of the polynomial is a zero of the quotient
pub other_zero : (f q : List ℕ) (p l : ℕ) → l < 255 → p < 255 → l ≢ p → IsDivision f (power p) q 0 → value_at f l ≡ 0 → value_at q l ≡ 0
other_zero f q p l small less other is none =
    no_zero_divisor (bit_xor (power l) (power p)) (value_at q l) (difference_some l p small less other) (difference_lt l p) (combined_lt q (λ j. power (l * j)) 0)
    (sym (value_divided f q p 0 l (omega arith) is) ∙ none)

-- ---- the polynomial with given zeros
-- f times (x + point), plus a
times : ℕ → ℕ → List ℕ → List ℕ
times point a [] = a ∷ []
times point a (b ∷ f) = bit_xor a (product point b) ∷ times point b f

times_at : (point a : ℕ) (f : List ℕ) (j : ℕ) → get_or (times point a f) j 0 ≡ bit_xor (get_or (a ∷ f) j 0) (product point (get_or f j 0))
unfolding times
times_at point a [] zero = sym (ap (bit_xor a) (product_zero_r point) ∙ xor_zero_r a)
times_at point a [] (suc j) = sym (ap (bit_xor 0) (product_zero_r point))
times_at point a (b ∷ f) zero = refl
times_at point a (b ∷ f) (suc j) = times_at point b f j

times_divided : (point : ℕ) (f : List ℕ) → IsDivision (times point 0 f) point f 0
times_divided point f = record { at = times_at point 0 f }

-- one more zero, if there is an error
extended : ℕ → ℕ → List ℕ → List ℕ
extended zero p f = f
extended (suc e) p f = times (power p) 0 f

pub counted : ℕ → ℕ
counted zero = 0
counted (suc e) = 1

pub counted_one : (e : ℕ) → 0 < e → counted e ≡ 1
unfolding counted
counted_one zero some = absurd (omega arith)
counted_one (suc e) some = refl

pub counted_none : counted 0 ≡ 0
unfolding counted
counted_none = refl

extended_leads : (e p d : ℕ) (f : List ℕ) → get_or f d 0 ≡ 1 → EndsAt f (d + 1) → get_or (extended e p f) (counted e + d) 0 ≡ 1
unfolding extended counted
extended_leads zero p d f one ends = ap (λ k. get_or f k 0) (let e : 0 + d ≡ d = omega arith in e) ∙ one
extended_leads (suc e) p d f one ends =
    ap (λ k. get_or (times (power p) 0 f) k 0) (let e : 1 + d ≡ suc d = omega arith in e)
    ∙ times_at (power p) 0 f (suc d) ∙ ap₂ bit_xor one (ap (product (power p)) (ends (suc d) (omega arith)) ∙ product_zero_r (power p)) ∙ xor_zero_r 1

extended_ends : (e p d : ℕ) (f : List ℕ) → EndsAt f (d + 1) → EndsAt (extended e p f) (counted e + d + 1)
unfolding extended counted
extended_ends zero p d f ends j l = ends j (omega arith)
extended_ends (suc e) p d f ends zero l = absurd (omega arith)
extended_ends (suc e) p d f ends (suc j) l =
    times_at (power p) 0 f (suc j) ∙ ap₂ bit_xor (ends j (omega arith)) (ap (product (power p)) (ends (suc j) (omega arith)) ∙ product_zero_r (power p))

times_value : (p l : ℕ) (f : List ℕ) → value_at (times (power p) 0 f) l ≡ product (bit_xor (power l) (power p)) (value_at f l)
times_value p l f = value_divided (times (power p) 0 f) f p 0 l (omega arith) (times_divided (power p) f)

extended_keeps : (e p l : ℕ) (f : List ℕ) → value_at f l ≡ 0 → value_at (extended e p f) l ≡ 0
unfolding extended
extended_keeps zero p l f none = none
extended_keeps (suc e) p l f none = times_value p l f ∙ ap (product (bit_xor (power l) (power p))) none ∙ product_zero_r (bit_xor (power l) (power p))

extended_zero : (e p : ℕ) (f : List ℕ) → 0 < e → value_at (extended e p f) p ≡ 0
unfolding extended
extended_zero zero p f some = absurd (omega arith)
extended_zero (suc e) p f some = times_value p p f ∙ ap (λ x. product x (value_at f p)) (xor_self (power p)) ∙ product_zero_l (value_at f p)

extended_some : (e p l : ℕ) (f : List ℕ) → l < 255 → p < 255 → (0 < e → l ≢ p) → 0 < value_at f l → 0 < value_at (extended e p f) l
unfolding extended
extended_some zero p l f small less other some = some
extended_some (suc e) p l f small less other some =
    subst (λ x. 0 < x) (sym (times_value p l f))
    (product_some (bit_xor (power l) (power p)) (value_at f l) (difference_some l p small less (other (omega arith))) (difference_lt l p) some (combined_lt f (λ j. power (l * j)) 0))

-- how many of the first places have errors
unfoldable pub weight : ℕ → (ℕ → ℕ) → ℕ
weight zero errors = 0
weight (suc m) errors = counted (errors m) + weight m errors

-- the polynomial with leading coefficient 1 that is zero just there
pub locator : ℕ → (ℕ → ℕ) → List ℕ
locator zero errors = 1 ∷ []
locator (suc m) errors = extended (errors m) m (locator m errors)

pub locator_ends : (m : ℕ) (errors : ℕ → ℕ) → EndsAt (locator m errors) (weight m errors + 1)
unfolding locator weight
locator_ends zero errors zero l = absurd (omega arith)
locator_ends zero errors (suc j) l = refl
locator_ends (suc m) errors j l = extended_ends (errors m) m (weight m errors) (locator m errors) (locator_ends m errors) j l

pub locator_leads : (m : ℕ) (errors : ℕ → ℕ) → get_or (locator m errors) (weight m errors) 0 ≡ 1
unfolding locator weight
locator_leads zero errors = refl
locator_leads (suc m) errors = extended_leads (errors m) m (weight m errors) (locator m errors) (locator_leads m errors) (locator_ends m errors)

pub locator_zero : (m : ℕ) (errors : ℕ → ℕ) (l : ℕ) → l < m → 0 < errors l → value_at (locator m errors) l ≡ 0
unfolding locator
locator_zero zero errors l below some = absurd (omega arith)
locator_zero (suc m) errors l below some = elim (cases_lt l m) [
  | inl before ↦ extended_keeps (errors m) m l (locator m errors) (locator_zero m errors l before some)
  | inr here ↦
      let e : l ≡ m = omega arith in
      ap (value_at (extended (errors m) m (locator m errors))) e ∙ extended_zero (errors m) m (locator m errors) (subst (λ k. 0 < errors k) e some)
]

value_nil : (l : ℕ) → value_at [] l ≡ 0
unfolding combined xor_sum
value_nil l = refl

pub locator_some : (m : ℕ) (errors : ℕ → ℕ) (l : ℕ) → m ≤ 255 → l < 255 → errors l ≡ 0 → 0 < value_at (locator m errors) l
unfolding locator
locator_some zero errors l most small none =
    subst (λ x. 0 < x) (sym (value_cons 1 [] l (omega arith) ∙ ap (λ x. bit_xor 1 (product (power l) x)) (value_nil l) ∙ ap (bit_xor 1) (product_zero_r (power l)) ∙ xor_zero_r 1)) (omega arith)
locator_some (suc m) errors l most small none =
    extended_some (errors m) m l (locator m errors) small (omega arith) (λ some same. absurd (omega (arith, ap errors same))) (locator_some m errors l (omega arith) small none)

-- ---- without one error
pub without : ℕ → (ℕ → ℕ) → ℕ → ℕ
without p errors l = cond (eqb l p) 0 (errors l)

pub without_here : (p : ℕ) (errors : ℕ → ℕ) → without p errors p ≡ 0
unfolding without
without_here p errors = ap (λ t. cond t 0 (errors p)) (eq-eqb p p refl)

pub without_other : (p l : ℕ) (errors : ℕ → ℕ) → l ≢ p → without p errors l ≡ errors l
unfolding without
without_other p l errors other = ap (λ t. cond t 0 (errors l)) (ne_eqb l p other)

pub weight_same : (m : ℕ) (xs ys : ℕ → ℕ) → ((l : ℕ) → l < m → xs l ≡ ys l) → weight m xs ≡ weight m ys
unfolding weight
weight_same zero xs ys same = refl
weight_same (suc m) xs ys same = ap₂ (λ x y. counted x + y) (same m (omega arith)) (weight_same m xs ys (λ l below. same l (omega arith)))

pub weight_without : (m p : ℕ) (errors : ℕ → ℕ) → p < m → 0 < errors p → weight m errors ≡ suc (weight m (without p errors))
unfolding weight counted
weight_without zero p errors below some = absurd (omega arith)
weight_without (suc m) p errors below some = elim (cases_lt p m) [
  | inl before ↦
      ap₂ (λ x y. counted x + y) (sym (without_other p m errors (λ e. absurd (omega arith)))) (weight_without m p errors before some)
      ∙ (let e : counted (without p errors m) + suc (weight m (without p errors)) ≡ suc (counted (without p errors m) + weight m (without p errors)) = omega arith in e)
  | inr here ↦
      let e : m ≡ p = omega arith in
      ap₂ (λ x y. x + y) (counted_one (errors m) (subst (λ k. 0 < errors k) (sym e) some))
      (weight_same m errors (without p errors) (λ l less. sym (without_other p l errors (λ same. absurd (omega arith)))))
      ∙ (let z : 1 + weight m (without p errors) ≡ suc (0 + weight m (without p errors)) = omega arith in z)
      ∙ ap (λ x. suc (counted x + weight m (without p errors))) (sym (ap (without p errors) e ∙ without_here p errors))
]
