-- Syndromes: of a list and its first item, of two lists joined, of two lists combined item by item.
use Rattle.std.proofs.Common.{◌≡◌, ℕ, zero, suc, ◌+◌, ◌-◌, ◌*◌, ◌<◌, ◌≤◌, refl, sym, ap, ap₂, subst, ◌∙◌, arith, List, [], ◌∷◌, ◌++◌, length, get_or, take, drop, replicate, length-append, length-drop}
use Rattle.std.proofs.Math.Seq.{take-append-add}
use Rattle.std.proofs.lemmas.List.{get_or-drop, get_or-append_right, take-append-drop}
use Rattle.std.specs.Int.Bits.{bit_xor, xor_assoc, xor_zero_r, xor_lt}
use Rattle.qrcode_types.specs.Polynomials.{xor_sum}
use Rattle.qrcode_ec.specs.Field.{product, power}
use Rattle.qrcode_ec.specs.Codes.{syndrome, Vanishes}
use Rattle.qrcode_ec.proofs.Xor.{xor_sum_same, xor_sum_none, xor_sum_xor, xor_sum_map}
use Rattle.qrcode_ec.proofs.Products.{product_lt, product_assoc, product_comm, product_zero_l, product_zero_r, product_one_r, product_xor_r, product_xor_l}
use Rattle.qrcode_ec.proofs.Powers.{power_lt, power_pos, power_zero, power_add, no_zero_divisor}

pub syndrome_cons : (i c : ℕ) (cs : List ℕ) → syndrome i (c ∷ cs) ≡ bit_xor (product c (power (i * length cs))) (syndrome i cs)
unfolding syndrome xor_sum
syndrome_cons i c cs =
    let l = length cs in
    let z : suc l - 1 - 0 ≡ l = omega arith in
    ap₂ bit_xor (ap (λ x. product c (power (i * x))) z)
    (xor_sum_same l (λ j. product (get_or cs j 0) (power (i * (suc l - 1 - suc j)))) (λ j. product (get_or cs j 0) (power (i * (l - 1 - j))))
    (λ j _. let y : suc l - 1 - suc j ≡ l - 1 - j = omega arith in ap (λ x. product (get_or cs j 0) (power (i * x))) y))

pub syndrome_nil : (i : ℕ) → syndrome i [] ≡ 0
unfolding syndrome xor_sum
syndrome_nil i = refl

pub syndrome_zero : (i : ℕ) (cs : List ℕ) → syndrome i (0 ∷ cs) ≡ syndrome i cs
syndrome_zero i cs = syndrome_cons i 0 cs ∙ ap (λ x. bit_xor x (syndrome i cs)) (product_zero_l (power (i * length cs)))

pub syndrome_append : (i : ℕ) (xs ys : List ℕ) → syndrome i (xs ++ ys) ≡ bit_xor (product (syndrome i xs) (power (i * length ys))) (syndrome i ys)
syndrome_append i [] ys = ap (λ x. bit_xor x (syndrome i ys)) (sym (ap (λ x. product x (power (i * length ys))) (syndrome_nil i) ∙ product_zero_l (power (i * length ys))))
syndrome_append i (x ∷ xs) ys =
    let p = power (i * length xs) in
    let q = power (i * length ys) in
    let e : i * (length xs + length ys) ≡ i * length xs + i * length ys = omega arith in
    syndrome_cons i x (xs ++ ys)
    ∙ ap₂ bit_xor (ap (λ n. product x (power (i * n))) (length-append xs ys) ∙ ap (λ n. product x (power n)) e ∙ ap (product x) (power_add (i * length xs) (i * length ys)) ∙ sym (product_assoc x p q)) (syndrome_append i xs ys)
    ∙ sym (xor_assoc (product (product x p) q) (product (syndrome i xs) q) (syndrome i ys))
    ∙ ap (λ y. bit_xor y (syndrome i ys)) (sym (product_xor_l (product x p) (syndrome i xs) q) ∙ ap (λ y. product y q) (sym (syndrome_cons i x xs)))

pub syndrome_last : (i c : ℕ) (xs : List ℕ) → c < 256 → syndrome i (xs ++ c ∷ []) ≡ bit_xor (product (power i) (syndrome i xs)) c
syndrome_last i c xs l =
    let e : i * 1 ≡ i = omega arith in
    let z : i * 0 ≡ 0 = omega arith in
    syndrome_append i xs (c ∷ [])
    ∙ ap₂ bit_xor (ap (λ n. product (syndrome i xs) (power n)) e ∙ product_comm (syndrome i xs) (power i))
    (syndrome_cons i c [] ∙ ap₂ bit_xor (ap (λ n. product c (power n)) z ∙ ap (product c) power_zero ∙ product_one_r c l) (syndrome_nil i) ∙ xor_zero_r c)

-- zs is xs plus f times ys
pub syndrome_combine : (i f : ℕ) (xs ys zs : List ℕ) → length xs ≡ length zs → length ys ≡ length zs
    → ((j : ℕ) → j < length zs → get_or zs j 0 ≡ bit_xor (get_or xs j 0) (product f (get_or ys j 0)))
    → syndrome i zs ≡ bit_xor (syndrome i xs) (product f (syndrome i ys))
unfolding syndrome
syndrome_combine i f xs ys zs p q h =
    let n = length zs in
    let at = λ (j : ℕ). power (i * (n - 1 - j)) in
    xor_sum_same n (λ j. product (get_or zs j 0) (at j)) (λ j. bit_xor (product (get_or xs j 0) (at j)) (product f (product (get_or ys j 0) (at j))))
    (λ j l. ap (λ x. product x (at j)) (h j l) ∙ product_xor_l (get_or xs j 0) (product f (get_or ys j 0)) (at j)
    ∙ ap (bit_xor (product (get_or xs j 0) (at j))) (product_assoc f (get_or ys j 0) (at j)))
    ∙ xor_sum_xor n (λ j. product (get_or xs j 0) (at j)) (λ j. product f (product (get_or ys j 0) (at j)))
    ∙ ap₂ bit_xor (ap (λ m. xor_sum m (λ j. product (get_or xs j 0) (power (i * (m - 1 - j))))) (sym p))
    (xor_sum_map (product f) (product_zero_r f) (λ a b. product_xor_r f a b) n (λ j. product (get_or ys j 0) (at j))
    ∙ ap (λ m. product f (xor_sum m (λ j. product (get_or ys j 0) (power (i * (m - 1 - j)))))) (sym q))

pub zeros_vanish : (n : ℕ) (zs : List ℕ) → ((j : ℕ) → j < length zs → get_or zs j 0 ≡ 0) → Vanishes zs n
unfolding syndrome
zeros_vanish n zs h i l =
    xor_sum_none (length zs) (λ j. product (get_or zs j 0) (power (i * (length zs - 1 - j))))
    (λ j k. ap (λ x. product x (power (i * (length zs - 1 - j)))) (h j k) ∙ product_zero_l (power (i * (length zs - 1 - j))))

pub get_or-pad : (xs : List ℕ) (j : ℕ) → get_or (xs ++ 0 ∷ []) j 0 ≡ get_or xs j 0
get_or-pad [] zero = refl
get_or-pad [] (suc j) = refl
get_or-pad (x ∷ xs) zero = refl
get_or-pad (x ∷ xs) (suc j) = get_or-pad xs j

pub syndrome_lt : (i : ℕ) (c : List ℕ) → syndrome i c < 256
syndrome_lt i [] = subst (λ s. s < 256) (sym (syndrome_nil i)) (omega arith)
syndrome_lt i (c ∷ cs) =
    subst (λ s. s < 256) (sym (syndrome_cons i c cs))
    (xor_lt 8 (product c (power (i * length cs))) (syndrome i cs) (product_lt c (power (i * length cs))) (syndrome_lt i cs))

-- zeros after a list multiply its syndrome by a power
pub syndrome_front : (i n : ℕ) (c : List ℕ) → n ≤ length c → ((j : ℕ) → n ≤ j → get_or c j 0 ≡ 0)
    → syndrome i c ≡ product (syndrome i (take n c)) (power (i * (length c - n)))
syndrome_front i n c most zeros =
    let front = take n c in
    let behind = drop n c in
    let none : syndrome i behind ≡ 0 = zeros_vanish (suc i) behind (λ j l. get_or-drop n c j 0 ∙ zeros (n + j) (omega arith)) i (omega arith) in
    ap (syndrome i) (sym (take-append-drop n c)) ∙ syndrome_append i front behind
    ∙ ap₂ (λ s l. bit_xor (product (syndrome i front) (power (i * l))) s) none (length-drop n c)
    ∙ xor_zero_r (product (syndrome i front) (power (i * (length c - n))))

-- a list that vanishes still does with zeros appended
pub vanishes_padded : (n k : ℕ) (c : List ℕ) → n ≤ length c → ((j : ℕ) → n ≤ j → get_or c j 0 ≡ 0) → Vanishes (take n c) k → Vanishes c k
vanishes_padded n k c most zeros v i l =
    syndrome_front i n c most zeros ∙ ap (λ s. product s (power (i * (length c - n)))) (v i l) ∙ product_zero_l (power (i * (length c - n)))

pub vanishes_cut : (n k : ℕ) (c : List ℕ) → n ≤ length c → ((j : ℕ) → n ≤ j → get_or c j 0 ≡ 0) → Vanishes c k → Vanishes (take n c) k
vanishes_cut n k c most zeros v i l =
    let p = power (i * (length c - n)) in
    no_zero_divisor p (syndrome i (take n c)) (power_pos (i * (length c - n))) (power_lt (i * (length c - n))) (syndrome_lt i (take n c))
    (product_comm p (syndrome i (take n c)) ∙ sym (syndrome_front i n c most zeros) ∙ v i l)

pub zeros_at : (m j : ℕ) → get_or {A = ℕ} (replicate m 0) j 0 ≡ 0
zeros_at zero j = refl
zeros_at (suc m) zero = refl
zeros_at (suc m) (suc j) = zeros_at m j

-- zeros at the end of the second of two lists may be left out
pub vanishes_behind : (n : ℕ) (xs ys : List ℕ) → n ≤ length ys → ((j : ℕ) → n ≤ j → get_or ys j 0 ≡ 0) → Vanishes (xs ++ ys) n → Vanishes (xs ++ take n ys) n
vanishes_behind n xs ys most zeros v =
    let at = length xs + n in
    let past : (j : ℕ) → at ≤ j → get_or (xs ++ ys) j 0 ≡ 0 = λ j over. get_or-append_right xs ys (length xs) j 0 refl (omega arith) ∙ zeros (j - length xs) (omega arith) in
    subst (λ c. Vanishes c n) (take-append-add xs ys n) (vanishes_cut at n (xs ++ ys) (omega (arith, length-append xs ys)) past v)
