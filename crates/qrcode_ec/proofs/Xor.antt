-- Laws of `xor` on numbers, and of `xor_sum`.
use Rattle.std.proofs.Common.{◌≡◌, ℕ, zero, suc, ◌+◌, ◌*◌, ◌/◌, ◌%◌, ◌^◌, ◌<◌, ◌≤◌, refl, sym, ap, ap₂, ◌∙◌, arith}
use Rattle.std.specs.Int.Bits.{bit_xor, xor_comm, xor_assoc, xor_self, xor_zero_r, xor_block, xor_shr, xor_mod}
use Rattle.qrcode_types.specs.Polynomials.{xor_sum}

pub xor_swap : (a b c : ℕ) → bit_xor a (bit_xor b c) ≡ bit_xor b (bit_xor a c)
xor_swap a b c = sym (xor_assoc a b c) ∙ ap (λ x. bit_xor x c) (xor_comm a b) ∙ xor_assoc b a c

pub xor_four : (a b c d : ℕ) → bit_xor (bit_xor a b) (bit_xor c d) ≡ bit_xor (bit_xor a c) (bit_xor b d)
xor_four a b c d = xor_assoc a b (bit_xor c d) ∙ ap (bit_xor a) (xor_swap b c d) ∙ sym (xor_assoc a c (bit_xor b d))

pub xor_cancel : (a b : ℕ) → bit_xor a (bit_xor a b) ≡ b
xor_cancel a b = sym (xor_assoc a a b) ∙ ap (λ x. bit_xor x b) (xor_self a)

pub same_from_xor : (a b : ℕ) → bit_xor a b ≡ 0 → a ≡ b
same_from_xor a b h = sym (xor_zero_r a) ∙ ap (bit_xor a) (sym h) ∙ xor_cancel a b

pub xor_twice : (a b : ℕ) → bit_xor a b * 2 ≡ bit_xor (a * 2) (b * 2)
xor_twice a b =
    let e = xor_block 1 a b 0 0 (omega arith) (omega arith) in
    let z : bit_xor a b * 2 + 0 ≡ bit_xor a b * 2 = omega arith in
    let p : a * 2 + 0 ≡ a * 2 = omega arith in
    let q : b * 2 + 0 ≡ b * 2 = omega arith in
    sym z ∙ sym e ∙ (λ i. bit_xor (p i) (q i))

pub xor_half : (a b : ℕ) → bit_xor a b / 2 ≡ bit_xor (a / 2) (b / 2)
xor_half a b = xor_shr a b 1

pub xor_odd : (a b : ℕ) → bit_xor a b % 2 ≡ bit_xor (a % 2) (b % 2)
xor_odd a b = xor_mod a b 1

-- a number is twice its half, xor its lowest bit
pub xor_split : (a : ℕ) → a ≡ bit_xor (a / 2 * 2) (a % 2)
xor_split a =
    let h : a % 2 < 2 ^ 1 = omega arith in
    let l : 0 < 2 ^ 1 = omega arith in
    let e = xor_block 1 (a / 2) 0 0 (a % 2) l h in
    let z : a / 2 * 2 ^ 1 + 0 ≡ a / 2 * 2 = omega arith in
    let y : 0 * 2 ^ 1 + a % 2 ≡ a % 2 = omega arith in
    let w : a ≡ a / 2 * 2 ^ 1 + a % 2 = omega arith in
    w ∙ ap (λ x. x * 2 ^ 1 + a % 2) (sym (xor_zero_r (a / 2))) ∙ sym e ∙ (λ i. bit_xor (z i) (y i))

-- ---- sums

pub xor_sum_same : (n : ℕ) (f g : ℕ → ℕ) → ((i : ℕ) → i < n → f i ≡ g i) → xor_sum n f ≡ xor_sum n g
unfolding xor_sum
xor_sum_same zero f g h = refl
xor_sum_same (suc n) f g h = ap₂ bit_xor (h 0 (omega arith)) (xor_sum_same n (λ i. f (suc i)) (λ i. g (suc i)) (λ i l. h (suc i) (omega arith)))

pub xor_sum_none : (n : ℕ) (f : ℕ → ℕ) → ((i : ℕ) → i < n → f i ≡ 0) → xor_sum n f ≡ 0
unfolding xor_sum
xor_sum_none zero f h = refl
xor_sum_none (suc n) f h = ap₂ bit_xor (h 0 (omega arith)) (xor_sum_none n (λ i. f (suc i)) (λ i l. h (suc i) (omega arith)))

pub xor_sum_xor : (n : ℕ) (f g : ℕ → ℕ) → xor_sum n (λ i. bit_xor (f i) (g i)) ≡ bit_xor (xor_sum n f) (xor_sum n g)
unfolding xor_sum
xor_sum_xor zero f g = refl
xor_sum_xor (suc n) f g =
    ap (bit_xor (bit_xor (f 0) (g 0))) (xor_sum_xor n (λ i. f (suc i)) (λ i. g (suc i)))
    ∙ xor_four (f 0) (g 0) (xor_sum n (λ i. f (suc i))) (xor_sum n (λ i. g (suc i)))

-- a map that keeps xor keeps sums
pub xor_sum_map : (h : ℕ → ℕ) → h 0 ≡ 0 → ((a b : ℕ) → h (bit_xor a b) ≡ bit_xor (h a) (h b))
    → (n : ℕ) (f : ℕ → ℕ) → xor_sum n (λ i. h (f i)) ≡ h (xor_sum n f)
unfolding xor_sum
xor_sum_map h h0 hx zero f = sym h0
xor_sum_map h h0 hx (suc n) f =
    ap (bit_xor (h (f 0))) (xor_sum_map h h0 hx n (λ i. f (suc i))) ∙ sym (hx (f 0) (xor_sum n (λ i. f (suc i))))

-- terms that are 0 from m on may be left out
pub xor_sum_more : (m n : ℕ) (f : ℕ → ℕ) → m ≤ n → ((i : ℕ) → m ≤ i → f i ≡ 0) → xor_sum n f ≡ xor_sum m f
unfolding xor_sum
xor_sum_more zero n f l h = xor_sum_none n f (λ i _. h i (omega arith))
xor_sum_more (suc m) zero f l h = absurd (omega arith)
xor_sum_more (suc m) (suc n) f l h = ap (bit_xor (f 0)) (xor_sum_more m n (λ i. f (suc i)) (omega arith) (λ i k. h (suc i) (omega arith)))
