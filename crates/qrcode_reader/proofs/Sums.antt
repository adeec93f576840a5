-- Sums of products.
use Rattle.std.proofs.Common.{◌≡◌, ◌≢◌, ℕ, zero, suc, ◌+◌, ◌<◌, ◌≤◌, List, length, get_or, refl, sym, ap, ap₂, ◌∙◌, arith}
use Rattle.std.proofs.lemmas.List.{get_or_past}
use Rattle.std.specs.Int.Bits.{bit_xor, xor_assoc, xor_comm, xor_zero_r, xor_lt}
use Rattle.qrcode_types.specs.Polynomials.{xor_sum}
use Rattle.qrcode_ec.specs.Field.{product}
use Rattle.qrcode_ec.proofs.Xor.{xor_sum_same, xor_sum_none, xor_sum_xor, xor_sum_map, xor_sum_more}
use Rattle.qrcode_ec.proofs.Products.{product_lt, product_assoc, product_swap, product_zero_l, product_zero_r, product_one_l, product_xor_r, product_xor_l}
use Rattle.qrcode_reader.specs.correct.Polynomials.{combined, EndsAt}

-- a sum of n + 1 terms ends with the last one
pub xor_sum_last : (n : ℕ) (f : ℕ → ℕ) → xor_sum (suc n) f ≡ bit_xor (xor_sum n f) (f n)
unfolding xor_sum
xor_sum_last zero f = xor_comm (f 0) 0
xor_sum_last (suc n) f = ap (bit_xor (f 0)) (xor_sum_last n (λ i. f (suc i))) ∙ sym (xor_assoc (f 0) (xor_sum n (λ i. f (suc i))) (f (suc n)))

-- a sum with a single term that is not zero
pub xor_sum_one : (n k : ℕ) (f : ℕ → ℕ) → k < n → ((i : ℕ) → i < n → i ≢ k → f i ≡ 0) → xor_sum n f ≡ f k
unfolding xor_sum
xor_sum_one zero k f l h = absurd (omega arith)
xor_sum_one (suc n) zero f l h = ap (bit_xor (f 0)) (xor_sum_none n (λ i. f (suc i)) (λ i m. h (suc i) (omega arith) (λ e. absurd (omega arith)))) ∙ xor_zero_r (f 0)
xor_sum_one (suc n) (suc k) f l h =
    ap₂ bit_xor (h 0 (omega arith) (λ e. absurd (omega arith))) (xor_sum_one n k (λ i. f (suc i)) (omega arith) (λ i m d. h (suc i) (omega arith) (λ e. d (omega arith))))

-- a sum whose first terms are zero
pub xor_sum_later : (s n : ℕ) (f : ℕ → ℕ) → ((i : ℕ) → i < s → f i ≡ 0) → xor_sum (s + n) f ≡ xor_sum n (λ i. f (s + i))
unfolding xor_sum
xor_sum_later zero n f h = ap (λ m. xor_sum m f) (let e : 0 + n ≡ n = omega arith in e) ∙ xor_sum_same n f (λ i. f (0 + i)) (λ i _. ap f (let e : i ≡ 0 + i = omega arith in e))
xor_sum_later (suc s) n f h =
    ap (λ m. xor_sum m f) (let e : suc s + n ≡ suc (s + n) = omega arith in e)
    ∙ ap₂ bit_xor (h 0 (omega arith)) (xor_sum_later s n (λ i. f (suc i)) (λ i l. h (suc i) (omega arith)))
    ∙ xor_sum_same n (λ i. f (suc (s + i))) (λ i. f (suc s + i)) (λ i _. ap f (let e : suc (s + i) ≡ suc s + i = omega arith in e))

-- sums of sums in either order
pub xor_sum_swap : (m n : ℕ) (f : ℕ → ℕ → ℕ) → xor_sum m (λ i. xor_sum n (f i)) ≡ xor_sum n (λ j. xor_sum m (λ i. f i j))
unfolding xor_sum
xor_sum_swap zero n f = sym (xor_sum_none n (λ j. 0) (λ j _. refl))
xor_sum_swap (suc m) n f =
    ap (bit_xor (xor_sum n (f 0))) (xor_sum_swap m n (λ i. f (suc i))) ∙ sym (xor_sum_xor n (f 0) (λ j. xor_sum m (λ i. f (suc i) j)))

-- a common factor of the terms
pub product_sum : (a n : ℕ) (f : ℕ → ℕ) → product a (xor_sum n f) ≡ xor_sum n (λ i. product a (f i))
product_sum a n f = sym (xor_sum_map (product a) (product_zero_r a) (product_xor_r a) n f)

-- ---- combinations
-- with more terms than there are coefficients
pub combined_more : (n : ℕ) (f : List ℕ) (values : ℕ → ℕ) (i : ℕ) → length f ≤ n → combined f values i ≡ xor_sum n (λ j. product (get_or f j 0) (values (i + j)))
unfolding combined
combined_more n f values i most =
    sym (xor_sum_more (length f) n (λ j. product (get_or f j 0) (values (i + j))) most
    (λ j l. ap (λ a. product a (values (i + j))) (get_or_past f j 0 l) ∙ product_zero_l (values (i + j))))

-- with as many terms as there are coefficients that are not zero
pub combined_few : (n : ℕ) (f : List ℕ) (values : ℕ → ℕ) (i : ℕ) → EndsAt f n → combined f values i ≡ xor_sum n (λ j. product (get_or f j 0) (values (i + j)))
combined_few n f values i ends =
    combined_more (n + length f) f values i (omega arith)
    ∙ xor_sum_more n (n + length f) (λ j. product (get_or f j 0) (values (i + j))) (omega arith)
    (λ j l. ap (λ a. product a (values (i + j))) (ends j l) ∙ product_zero_l (values (i + j)))

-- combinations of values that agree are equal
pub combined_same : (n : ℕ) (f : List ℕ) (xs ys : ℕ → ℕ) (i : ℕ) → EndsAt f n → ((j : ℕ) → j < n → xs (i + j) ≡ ys (i + j)) → combined f xs i ≡ combined f ys i
combined_same n f xs ys i ends same =
    combined_few n f xs i ends
    ∙ xor_sum_same n (λ j. product (get_or f j 0) (xs (i + j))) (λ j. product (get_or f j 0) (ys (i + j))) (λ j l. ap (product (get_or f j 0)) (same j l))
    ∙ sym (combined_few n f ys i ends)

-- the combination by f plus a multiple of g
pub combined_sum : (q : ℕ) (f g sum : List ℕ) (values : ℕ → ℕ) (i : ℕ)
    → ((j : ℕ) → get_or sum j 0 ≡ bit_xor (get_or f j 0) (product q (get_or g j 0)))
    → combined sum values i ≡ bit_xor (combined f values i) (product q (combined g values i))
combined_sum q f g sum values i at =
    let n = length f + length g + length sum in
    let v = λ (j : ℕ). values (i + j) in
    let a = λ (j : ℕ). product (get_or f j 0) (v j) in
    let b = λ (j : ℕ). product (get_or g j 0) (v j) in
    combined_more n sum values i (omega arith)
    ∙ xor_sum_same n (λ j. product (get_or sum j 0) (v j)) (λ j. bit_xor (a j) (product q (b j)))
    (λ j _. ap (λ x. product x (v j)) (at j) ∙ product_xor_l (get_or f j 0) (product q (get_or g j 0)) (v j) ∙ ap (bit_xor (a j)) (product_assoc q (get_or g j 0) (v j)))
    ∙ xor_sum_xor n a (λ j. product q (b j))
    ∙ ap₂ bit_xor (sym (combined_more n f values i (omega arith))) (sym (product_sum q n b) ∙ ap (product q) (sym (combined_more n g values i (omega arith))))

-- the combination by a polynomial times a power of x
pub combined_raised : (s : ℕ) (f raised : List ℕ) (values : ℕ → ℕ) (i : ℕ)
    → ((j : ℕ) → j < s → get_or raised j 0 ≡ 0) → ((j : ℕ) → get_or raised (s + j) 0 ≡ get_or f j 0)
    → combined raised values i ≡ combined f values (i + s)
combined_raised s f raised values i zeros at =
    let n = length f + length raised in
    combined_more (s + n) raised values i (omega arith)
    ∙ xor_sum_later s n (λ j. product (get_or raised j 0) (values (i + j))) (λ j l. ap (λ a. product a (values (i + j))) (zeros j l) ∙ product_zero_l (values (i + j)))
    ∙ xor_sum_same n (λ j. product (get_or raised (s + j) 0) (values (i + (s + j)))) (λ j. product (get_or f j 0) (values (i + s + j)))
    (λ j _. ap₂ (λ a k. product a (values k)) (at j) (let e : i + (s + j) ≡ i + s + j = omega arith in e))
    ∙ sym (combined_more n f values (i + s) (omega arith))

-- combinations of combinations, in either order
pub combined_swap : (f g : List ℕ) (values : ℕ → ℕ) (i : ℕ) → combined f (combined g values) i ≡ combined g (combined f values) i
unfolding combined
combined_swap f g values i =
    let m = length f in
    let n = length g in
    let term = λ (j k : ℕ). product (get_or f j 0) (product (get_or g k 0) (values (i + j + k))) in
    xor_sum_same m (λ j. product (get_or f j 0) (xor_sum n (λ k. product (get_or g k 0) (values (i + j + k))))) (λ j. xor_sum n (term j))
    (λ j _. product_sum (get_or f j 0) n (λ k. product (get_or g k 0) (values (i + j + k))))
    ∙ xor_sum_swap m n term
    ∙ xor_sum_same n (λ k. xor_sum m (λ j. term j k)) (λ k. product (get_or g k 0) (xor_sum m (λ j. product (get_or f j 0) (values (i + k + j)))))
    (λ k _. xor_sum_same m (λ j. term j k) (λ j. product (get_or g k 0) (product (get_or f j 0) (values (i + k + j))))
    (λ j _. product_swap (get_or f j 0) (get_or g k 0) (values (i + j + k))
    ∙ ap (λ x. product (get_or g k 0) (product (get_or f j 0) (values x))) (let e : i + j + k ≡ i + k + j = omega arith in e))
    ∙ sym (product_sum (get_or g k 0) m (λ j. product (get_or f j 0) (values (i + k + j)))))

-- if all values that meet a coefficient are zero except the one at the leading coefficient, that value is left
pub combined_leads : (d : ℕ) (f : List ℕ) (values : ℕ → ℕ) (i : ℕ) → get_or f d 0 ≡ 1 → EndsAt f (d + 1) → ((j : ℕ) → values j < 256)
    → ((j : ℕ) → j < d → values (i + j) ≡ 0) → combined f values i ≡ values (i + d)
combined_leads d f values i leads ends bytes zeros =
    combined_few (d + 1) f values i ends
    ∙ xor_sum_one (d + 1) d (λ j. product (get_or f j 0) (values (i + j))) (omega arith)
    (λ j l other. ap (product (get_or f j 0)) (zeros j (omega arith)) ∙ product_zero_r (get_or f j 0))
    ∙ ap (λ a. product a (values (i + d))) leads ∙ product_one_l (values (i + d)) (bytes (i + d))

-- if all values that meet a coefficient are zero, so is the combination
pub combined_none : (f : List ℕ) (values : ℕ → ℕ) (i : ℕ) (n : ℕ) → EndsAt f n → ((j : ℕ) → j < n → values (i + j) ≡ 0) → combined f values i ≡ 0
combined_none f values i n ends zeros =
    combined_few n f values i ends
    ∙ xor_sum_none n (λ j. product (get_or f j 0) (values (i + j))) (λ j l. ap (product (get_or f j 0)) (zeros j l) ∙ product_zero_r (get_or f j 0))

-- a sum of bytes is a byte
xor_sum_lt : (n : ℕ) (f : ℕ → ℕ) → ((i : ℕ) → f i < 256) → xor_sum n f < 256
unfolding xor_sum
xor_sum_lt zero f h = omega arith
xor_sum_lt (suc n) f h = xor_lt 8 (f 0) (xor_sum n (λ i. f (suc i))) (h 0) (xor_sum_lt n (λ i. f (suc i)) (λ i. h (suc i)))

pub combined_lt : (f : List ℕ) (values : ℕ → ℕ) (i : ℕ) → combined f values i < 256
unfolding combined
combined_lt f values i = xor_sum_lt (length f) (λ j. product (get_or f j 0) (values (i + j))) (λ j. product_lt (get_or f j 0) (values (i + j)))
