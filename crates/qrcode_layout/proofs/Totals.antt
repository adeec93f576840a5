-- Sums of a function over the numbers below a bound.
use Rattle.std.proofs.Common.{◌≡◌, ℕ, zero, suc, ◌+◌, ◌-◌, ◌*◌, ◌<◌, Bool, cond, List, ◌∷◌, map, length, arith, refl, ap, ap₂, ◌∙◌, zero-add}
use Rattle.std.specs.List.{range_with_len, filter}
use Rattle.std.proofs.lemmas.Bool.Decides.{nat_tests}

-- f 0 + f 1 + .. + f (n - 1)
unfoldable pub total : ℕ → (ℕ → ℕ) → ℕ
total zero f = 0
total (suc n) f = f 0 + total n (λ i. f (suc i))

pub total_same : (n : ℕ) (f g : ℕ → ℕ) → ((i : ℕ) → i < n → f i ≡ g i) → total n f ≡ total n g
unfolding total
total_same zero f g same = refl
total_same (suc n) f g same = ap₂ (λ a b. a + b) (same 0 (omega arith)) (total_same n (λ i. f (suc i)) (λ i. g (suc i)) (λ i lt. same (suc i) (omega arith)))

pub total_add : (n : ℕ) (f g : ℕ → ℕ) → total n (λ i. f i + g i) ≡ total n f + total n g
unfolding total
total_add zero f g = refl
total_add (suc n) f g = omega (arith, total_add n (λ i. f (suc i)) (λ i. g (suc i)))

total_split : (m n : ℕ) (f : ℕ → ℕ) → total (m + n) f ≡ total m f + total n (λ i. f (m + i))
unfolding total
total_split zero n f =
    let e : 0 + n ≡ n = omega arith in
    rw e (omega (arith, total_same n (λ i. f (0 + i)) f (λ i lt. ap f (zero-add i))))
total_split (suc m) n f =
    let e : suc m + n ≡ suc (m + n) = omega arith in
    let moved = total_same n (λ i. f (suc (m + i))) (λ i. f (suc m + i)) (λ i lt. ap f (let k : suc (m + i) ≡ suc m + i = omega arith in k)) in
    rw e (omega (arith, moved, total_split m n (λ i. f (suc i))))

total_last : (n : ℕ) (f : ℕ → ℕ) → total (suc n) f ≡ total n f + f n
unfolding total
total_last zero f = omega arith
total_last (suc n) f = omega (arith, total_last n (λ i. f (suc i)))

-- a sum from the other end
pub total_turned : (n : ℕ) (f : ℕ → ℕ) → total n (λ i. f (n - 1 - i)) ≡ total n f
unfolding total
total_turned zero f = refl
total_turned (suc n) f =
    let first : f (suc n - 1 - 0) ≡ f n = ap f (omega arith) in
    let rest = total_same n (λ i. f (suc n - 1 - suc i)) (λ i. f (n - 1 - i)) (λ i lt. ap f (let k : suc n - 1 - suc i ≡ n - 1 - i = omega arith in k)) in
    omega (arith, first, rest, total_turned n f, total_last n f)

-- a sum by blocks of k numbers
pub total_blocks : (h k : ℕ) (f : ℕ → ℕ) → total (h * k) f ≡ total h (λ p. total k (λ s. f (p * k + s)))
unfolding total
total_blocks zero k f = let e : 0 * k ≡ 0 = omega arith in rw e refl
total_blocks (suc h) k f =
    let e : suc h * k ≡ k + h * k = omega arith in
    let first = total_same k f (λ s. f (0 * k + s)) (λ s lt. ap f (let z : s ≡ 0 * k + s = omega arith in z)) in
    let rest = total_same h (λ p. total k (λ s. f (k + (p * k + s)))) (λ p. total k (λ s. f (suc p * k + s)))
    (λ p _. total_same k (λ s. f (k + (p * k + s))) (λ s. f (suc p * k + s)) (λ s _. ap f (let z : k + (p * k + s) ≡ suc p * k + s = omega arith in z))) in
    rw e (total_split k (h * k) f ∙ ap₂ (λ a b. a + b) first (total_blocks h k (λ i. f (k + i)) ∙ rest))

-- a sum by the even and the odd numbers
pub total_pairs : (n : ℕ) (f : ℕ → ℕ) → total (2 * n) f ≡ total n (λ i. f (2 * i)) + total n (λ i. f (2 * i + 1))
unfolding total
total_pairs n f =
    let e : 2 * n ≡ n * 2 = omega arith in
    let pair = λ (i : ℕ) (_ : i < n). (let even : f (i * 2 + 0) ≡ f (2 * i) = ap f (omega arith) in let odd : f (i * 2 + 1) ≡ f (2 * i + 1) = ap f (omega arith) in
    (let both : f (i * 2 + 0) + (f (i * 2 + 1) + 0) ≡ f (2 * i) + f (2 * i + 1) = omega (arith, even, odd) in both)) in
    ap (λ m. total m f) e ∙ total_blocks n 2 f ∙ total_same n (λ i. total 2 (λ s. f (i * 2 + s))) (λ i. f (2 * i) + f (2 * i + 1)) pair
    ∙ total_add n (λ i. f (2 * i)) (λ i. f (2 * i + 1))

-- 1 for a test that passes
abbrev pub bit : Bool → ℕ
bit b = cond b 1 0

kept_one : {X : Type 0} (b : Bool) (x : X) (xs : List X) → length (cond b (x ∷ xs) xs) ≡ bit b + length xs
kept_one b x xs = grind (arith, nat_tests)

-- how many elements of a list made from a function pass
pub kept_total : {X : Type 0} (p : X → Bool) (f : ℕ → X) (a n : ℕ) → length (filter p (map f (range_with_len a n))) ≡ total n (λ i. bit (p (f (a + i))))
unfolding total
kept_total p f a zero = refl
kept_total p f a (suc n) =
    let here : bit (p (f a)) ≡ bit (p (f (a + 0))) = ap (λ k. bit (p (f k))) (omega arith) in
    let moved = total_same n (λ i. bit (p (f (a + 1 + i)))) (λ i. bit (p (f (a + suc i)))) (λ i _. ap (λ k. bit (p (f k))) (let z : a + 1 + i ≡ a + suc i = omega arith in z)) in
    kept_one (p (f a)) (f a) _ ∙ ap₂ (λ m k. m + k) here (kept_total p f (a + 1) n ∙ moved)
