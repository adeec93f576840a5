-- Two lists that vanish at n powers of 2 differ in more than n places.
use Rattle.std.proofs.Common.{◌≡◌, ℕ, zero, suc, ◌+◌, ◌*◌, ◌<◌, ◌≤◌, ◌⊎◌, inl, inr, refl, sym, ap, ap₂, ◌∙◌, arith, subst, Bool, true, false, eqb, cond, List, [], ◌∷◌, ◌++◌, length}
use Rattle.std.proofs.lemmas.Bool.{eq-eqb, eqb-true}
use Rattle.std.specs.Int.Bits.{bit_xor, xor_self, xor_lt}
use Rattle.std.proofs.lemmas.Bool.Decides.{nat_tests}
use Rattle.qrcode_types.specs.Bits.{AreBytes}
use Rattle.qrcode_ec.specs.Field.{product, power}
use Rattle.qrcode_ec.specs.Codes.{syndrome, Vanishes, distance, HasDistanceAbove}
use Rattle.qrcode_ec.proofs.Xor.{xor_four, same_from_xor}
use Rattle.qrcode_ec.proofs.Products.{product_lt, product_assoc, product_zero_l, product_zero_r, product_one_r, product_xor_r, product_xor_l, product_swap}
use Rattle.qrcode_ec.proofs.Powers.{power_lt, power_zero, power_add, no_zero_divisor, power_injective}
use Rattle.qrcode_ec.proofs.Syndromes.{syndrome_append, syndrome_cons, syndrome_nil, syndrome_zero}

-- ---- the number of items that are not 0
weight : List ℕ → ℕ
weight [] = 0
weight (zero ∷ cs) = weight cs
weight (suc c ∷ cs) = suc (weight cs)

weight_none : (c : ℕ) (cs : List ℕ) → c ≡ 0 → weight (c ∷ cs) ≡ weight cs
unfolding weight
weight_none c cs e = ap (λ x. weight (x ∷ cs)) e

weight_one : (c : ℕ) (cs : List ℕ) → 0 < c → weight (c ∷ cs) ≡ suc (weight cs)
unfolding weight
weight_one c cs h1 = grind (arith, nat_tests)

-- ---- removing one term: each other term is multiplied by the difference between its place and that one's
weigh : ℕ → List ℕ → List ℕ
weigh x [] = []
weigh x (c ∷ cs) = product c (bit_xor (power (length cs)) x) ∷ weigh x cs

length-weigh : (x : ℕ) (cs : List ℕ) → length (weigh x cs) ≡ length cs
unfolding weigh
length-weigh x [] = refl
length-weigh x (c ∷ cs) = ap suc (length-weigh x cs)

weigh_bytes : (x : ℕ) (cs : List ℕ) → AreBytes (weigh x cs)
unfolding weigh
weigh_bytes x [] = tt
weigh_bytes x (c ∷ cs) = (product_lt c (bit_xor (power (length cs)) x), weigh_bytes x cs)

power_more : (i l : ℕ) → power (suc i * l) ≡ product (power l) (power (i * l))
power_more i l = ap power (let z : suc i * l ≡ l + i * l = omega arith in z) ∙ power_add l (i * l)

weigh_term : (c p x q : ℕ) → product (product c (bit_xor p x)) q ≡ bit_xor (product c (product p q)) (product x (product c q))
weigh_term c p x q =
    product_assoc c (bit_xor p x) q ∙ ap (product c) (product_xor_l p x q) ∙ product_xor_r c (product p q) (product x q)
    ∙ ap (bit_xor (product c (product p q))) (product_swap c x q)

weigh_syndrome : (x i : ℕ) (cs : List ℕ) → syndrome i (weigh x cs) ≡ bit_xor (syndrome (suc i) cs) (product x (syndrome i cs))
unfolding weigh
weigh_syndrome x i [] = syndrome_nil i ∙ sym (ap₂ (λ y z. bit_xor y (product x z)) (syndrome_nil (suc i)) (syndrome_nil i) ∙ product_zero_r x)
weigh_syndrome x i (c ∷ cs) =
    let l = length cs in
    let q = power (i * l) in
    syndrome_cons i (product c (bit_xor (power l) x)) (weigh x cs)
    ∙ ap₂ bit_xor
    (ap (λ n. product (product c (bit_xor (power l) x)) (power (i * n))) (length-weigh x cs) ∙ weigh_term c (power l) x q
    ∙ ap (λ y. bit_xor (product c y) (product x (product c q))) (sym (power_more i l)))
    (weigh_syndrome x i cs)
    ∙ xor_four (product c (power (suc i * l))) (product x (product c q)) (syndrome (suc i) cs) (product x (syndrome i cs))
    ∙ ap₂ bit_xor (sym (syndrome_cons (suc i) c cs)) (sym (product_xor_r x (product c q) (syndrome i cs)) ∙ ap (product x) (sym (syndrome_cons i c cs)))

pos_or_zero : (a : ℕ) → (a ≡ 0) ⊎ (0 < a)
pos_or_zero zero = inl refl
pos_or_zero (suc a) = inr (omega arith)

weight_weigh : (m : ℕ) (cs : List ℕ) → AreBytes cs → length cs ≤ m → m < 255 → weight (weigh (power m) cs) ≡ weight cs
unfolding weigh
weight_weigh m [] b l h = refl
weight_weigh m (c ∷ cs) b l h =
    let d = bit_xor (power (length cs)) (power m) in
    let ih = weight_weigh m cs b.1 (omega arith) h in
    let dl : d < 256 = xor_lt 8 (power (length cs)) (power m) (power_lt (length cs)) (power_lt m) in
    let dp : d ≡ 0 → ⊥ = λ e. absurd (omega (arith, power_injective (length cs) m (omega arith) h (same_from_xor (power (length cs)) (power m) e))) in
    elim (pos_or_zero c) [
      | inl z ↦ weight_none (product c d) (weigh (power m) cs) (ap (λ x. product x d) z ∙ product_zero_l d) ∙ ih ∙ sym (weight_none c cs z)
      | inr p ↦
          weight_one (product c d) (weigh (power m) cs)
          (elim (pos_or_zero (product c d)) [ inl e ↦ absurd (dp (no_zero_divisor c d p b.0 dl e)) | inr q ↦ q ])
          ∙ ap suc ih ∙ sym (weight_one c cs p)
    ]

weight_zero : (i : ℕ) (cs : List ℕ) → weight cs ≡ 0 → syndrome i cs ≡ 0
unfolding weight
weight_zero i [] h = syndrome_nil i
weight_zero i (zero ∷ cs) h = syndrome_zero i cs ∙ weight_zero i cs h
weight_zero i (suc c ∷ cs) h = absurd (omega arith)

-- ---- a list that vanishes at as many places as it has nonzero items has none
-- the sum of the other terms, if the whole sum is 0
rest_is : (i c : ℕ) (cs : List ℕ) → syndrome i (c ∷ cs) ≡ 0 → product c (power (i * length cs)) ≡ syndrome i cs
rest_is i c cs h = same_from_xor (product c (power (i * length cs))) (syndrome i cs) (sym (syndrome_cons i c cs) ∙ h)

taken_out : (n c : ℕ) (cs : List ℕ) → Vanishes (c ∷ cs) (suc n) → Vanishes (weigh (power (length cs)) cs) n
taken_out n c cs v i l =
    let x = power (length cs) in
    let q = power (i * length cs) in
    let high = rest_is (suc i) c cs (v (suc i) (omega arith)) in
    let low = rest_is i c cs (v i (omega arith)) in
    let same : product c (power (suc i * length cs)) ≡ product x (product c q) =
    ap (product c) (power_more i (length cs)) ∙ product_swap c x q in
    weigh_syndrome x i cs ∙ ap₂ (λ y z. bit_xor y (product x z)) (sym high) (sym low)
    ∙ ap (λ y. bit_xor y (product x (product c q))) same ∙ xor_self (product x (product c q))

all_zero : (k n : ℕ) (cs : List ℕ) → length cs ≤ k → AreBytes cs → length cs ≤ 255 → weight cs ≤ n → Vanishes cs n → weight cs ≡ 0
unfolding weight
all_zero k n [] l b s w v = refl
all_zero zero n (c ∷ cs) l b s w v = absurd (omega arith)
all_zero (suc k) n (zero ∷ cs) l b s w v =
    all_zero k n cs (omega arith) b.1 (omega arith) w (λ i h. sym (syndrome_zero i cs) ∙ v i h)
all_zero (suc k) zero (suc c ∷ cs) l b s w v = absurd (omega arith)
all_zero (suc k) (suc n) (suc c ∷ cs) l b s w v =
    let x = power (length cs) in
    let e = weight_weigh (length cs) cs b.1 (omega arith) (omega arith) in
    let r = all_zero k n (weigh x cs) (subst (λ m. m ≤ k) (sym (length-weigh x cs)) (omega arith)) (weigh_bytes x cs)
    (subst (λ m. m ≤ 255) (sym (length-weigh x cs)) (omega arith)) (subst (λ m. m ≤ n) (sym e) (omega arith)) (taken_out n (suc c) cs v) in
    let z : suc c ≡ 0 =
    sym (product_one_r (suc c) b.0) ∙ ap (product (suc c)) (sym power_zero ∙ ap power (let y : 0 ≡ 0 * length cs = omega arith in y))
    ∙ rest_is 0 (suc c) cs (v 0 (omega arith)) ∙ weight_zero 0 cs (sym e ∙ r) in
    absurd (omega arith)

-- ---- two lists
difference : List ℕ → List ℕ → List ℕ
difference [] ys = []
difference (x ∷ xs) [] = []
difference (x ∷ xs) (y ∷ ys) = bit_xor x y ∷ difference xs ys

length-difference : (xs ys : List ℕ) → length xs ≡ length ys → length (difference xs ys) ≡ length xs
unfolding difference
length-difference [] ys h = refl
length-difference (x ∷ xs) [] h = absurd (omega arith)
length-difference (x ∷ xs) (y ∷ ys) h = ap suc (length-difference xs ys (omega arith))

difference_bytes : (xs ys : List ℕ) → AreBytes xs → AreBytes ys → AreBytes (difference xs ys)
unfolding difference
difference_bytes [] ys a b = tt
difference_bytes (x ∷ xs) [] a b = tt
difference_bytes (x ∷ xs) (y ∷ ys) a b = (xor_lt 8 x y a.0 b.0, difference_bytes xs ys a.1 b.1)

difference_syndrome : (i : ℕ) (xs ys : List ℕ) → length xs ≡ length ys → syndrome i (difference xs ys) ≡ bit_xor (syndrome i xs) (syndrome i ys)
unfolding difference
difference_syndrome i [] [] h = syndrome_nil i ∙ (λ j. bit_xor (sym (syndrome_nil i) j) (sym (syndrome_nil i) j))
difference_syndrome i [] (y ∷ ys) h = absurd (omega arith)
difference_syndrome i (x ∷ xs) [] h = absurd (omega arith)
difference_syndrome i (x ∷ xs) (y ∷ ys) h =
    let e : length xs ≡ length ys = omega arith in
    let q = power (i * length xs) in
    syndrome_cons i (bit_xor x y) (difference xs ys)
    ∙ ap₂ bit_xor (ap (λ n. product (bit_xor x y) (power (i * n))) (length-difference xs ys e) ∙ product_xor_l x y q) (difference_syndrome i xs ys e)
    ∙ xor_four (product x q) (product y q) (syndrome i xs) (syndrome i ys)
    ∙ ap₂ bit_xor (sym (syndrome_cons i x xs)) (ap (λ n. bit_xor (product y (power (i * n))) (syndrome i ys)) e ∙ sym (syndrome_cons i y ys))

test_cases : (t : Bool) → (t ≡ true) ⊎ (t ≡ false)
test_cases true = inl refl
test_cases false = inr refl

difference_weight : (xs ys : List ℕ) → length xs ≡ length ys → weight (difference xs ys) ≡ distance xs ys
unfolding difference weight
difference_weight [] [] h = refl
difference_weight [] (y ∷ ys) h = absurd (omega arith)
difference_weight (x ∷ xs) [] h = absurd (omega arith)
difference_weight (x ∷ xs) (y ∷ ys) h =
    let ih = difference_weight xs ys (omega arith) in
    elim (test_cases (eqb x y)) [
      | inl t ↦
          weight_none (bit_xor x y) (difference xs ys) (ap (bit_xor x) (sym (eqb-true x y t)) ∙ xor_self x) ∙ ih
          ∙ (let z : distance xs ys ≡ 0 + distance xs ys = omega arith in z) ∙ ap (λ u. cond u 0 1 + distance xs ys) (sym t)
      | inr t ↦
          let ne : bit_xor x y ≡ 0 → ⊥ = λ e. absurd (let f : true ≡ false = sym (eq-eqb x y (same_from_xor x y e)) ∙ t in cc) in
          weight_one (bit_xor x y) (difference xs ys) (omega arith)
          ∙ ap suc ih ∙ (let z : suc (distance xs ys) ≡ 1 + distance xs ys = omega arith in z) ∙ ap (λ u. cond u 0 1 + distance xs ys) (sym t)
    ]

same_from_weight : (xs ys : List ℕ) → length xs ≡ length ys → weight (difference xs ys) ≡ 0 → xs ≡ ys
unfolding difference weight
same_from_weight [] [] h w = refl
same_from_weight [] (y ∷ ys) h w = absurd (omega arith)
same_from_weight (x ∷ xs) [] h w = absurd (omega arith)
same_from_weight (x ∷ xs) (y ∷ ys) h w =
    elim (pos_or_zero (bit_xor x y)) [
      | inl e ↦ ap₂ (λ z zs. z ∷ zs) (same_from_xor x y e) (same_from_weight xs ys (omega arith) (sym (weight_none (bit_xor x y) (difference xs ys) e) ∙ w))
      | inr p ↦ absurd (let e = weight_one (bit_xor x y) (difference xs ys) p in omega arith)
    ]

-- lists that differ in at most n places are equal if their syndromes at n powers are
pub same_within : (n : ℕ) (xs ys : List ℕ) → AreBytes xs → AreBytes ys → length xs ≡ length ys → length xs ≤ 255
    → ((i : ℕ) → i < n → syndrome i xs ≡ syndrome i ys) → distance xs ys ≤ n → xs ≡ ys
same_within n xs ys a b h l same d =
    let e = length-difference xs ys h in
    let z = all_zero (length xs) n (difference xs ys) (omega arith) (difference_bytes xs ys a b) (omega arith) (subst (λ m. m ≤ n) (sym (difference_weight xs ys h)) d)
    (λ i p. difference_syndrome i xs ys h ∙ ap (bit_xor (syndrome i xs)) (sym (same i p)) ∙ xor_self (syndrome i xs)) in
    same_from_weight xs ys h z

-- a list that vanishes is the only one within n places of it
pub distance_above : (n : ℕ) (xs : List ℕ) → AreBytes xs → length xs ≤ 255 → Vanishes xs n → HasDistanceAbove n xs
distance_above n xs a l v other b k w d = sym (same_within n xs other a b (sym k) l (λ i below. v i below ∙ sym (w i below)) d)

cond_le : (b : Bool) → cond b 0 1 ≤ 1
cond_le b = grind (arith, nat_tests)

distance_le : (xs ys : List ℕ) → distance xs ys ≤ length xs
distance_le [] ys = omega arith
distance_le (x ∷ xs) [] = omega arith
distance_le (x ∷ xs) (y ∷ ys) = omega (arith, distance_le xs ys, cond_le (eqb x y))

-- only one list of n bytes makes the data vanish when appended to it
pub one_code : (n : ℕ) (p xs ys : List ℕ) → AreBytes xs → AreBytes ys → length xs ≡ n → length ys ≡ n → n ≤ 255
    → Vanishes (p ++ xs) n → Vanishes (p ++ ys) n → xs ≡ ys
one_code n p xs ys xb yb lx ly most v w =
    let behind : (zs : List ℕ) → length zs ≡ n → Vanishes (p ++ zs) n → (i : ℕ) → i < n → product (syndrome i p) (power (i * n)) ≡ syndrome i zs = λ zs same u i below.
    same_from_xor (product (syndrome i p) (power (i * n))) (syndrome i zs)
    (ap (λ m. bit_xor (product (syndrome i p) (power (i * m))) (syndrome i zs)) (sym same) ∙ sym (syndrome_append i p zs) ∙ u i below) in
    same_within n xs ys xb yb (lx ∙ sym ly) (omega arith) (λ i below. sym (behind xs lx v i below) ∙ behind ys ly w i below) (omega (arith, distance_le xs ys))
