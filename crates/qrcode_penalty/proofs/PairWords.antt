-- Numbers made of a word of 64 bits and the higher part after it.
use Rattle.std.proofs.Common.{◌≡◌, ℕ, zero, suc, ◌+◌, ◌*◌, ◌/◌, ◌%◌, ◌^◌, ◌<◌, ◌==◌, ◌&&◌, Bool, true, false, refl, ap, ap₂, sym, ◌∙◌, arith, bit_or, mul_assoc, mul_comm, add-mul, subst}
use Rattle.std.proofs.lemmas.Bool.{ne_eqb}
use Rattle.std.proofs.lemmas.Nat.{shr_split, pow-add}
use Rattle.qrcode_penalty.proofs.Words.{shr_words, word_shl, or_plus}

-- a word shifted up: the bits that leave it, and those that stay
pub word_up : (l j k : ℕ) → j + k ≡ 64 → (l / 2 ^ k) * 2 ^ 64 + l * 2 ^ j % 2 ^ 64 ≡ l * 2 ^ j
word_up l j k e = let P : ℕ → Type 0 = λ y. (l / 2 ^ k) * 2 ^ y + l * 2 ^ j % 2 ^ y ≡ l * 2 ^ j in subst P e (word_shl l j k)

-- the bits that stay are joined with those that come from the word below
pub or_over : (m l j k : ℕ) → j + k ≡ 64 → l < 2 ^ 64 → bit_or (m * 2 ^ j % 2 ^ 64) (l / 2 ^ k) ≡ m * 2 ^ j % 2 ^ 64 + l / 2 ^ k
or_over m l j k e h =
    let Q : ℕ → Type 0 = λ z. l < 2 ^ z → bit_or (m * 2 ^ j % 2 ^ z) (l / 2 ^ k) ≡ m * 2 ^ j % 2 ^ z + l / 2 ^ k in
    subst Q e (λ r. or_plus m l j k r) h

pushed : (h l p : ℕ) → (h * 2 ^ 64 + l) * p ≡ h * p * 2 ^ 64 + l * p
pushed h l p =
    add-mul (h * 2 ^ 64) l p ∙ ap (λ n. n + l * p) (mul_assoc h (2 ^ 64) p ∙ ap (λ n. h * n) (mul_comm (2 ^ 64) p) ∙ sym (mul_assoc h p (2 ^ 64)))

-- a word and the higher part, shifted up
pub longer_up : (h l j k : ℕ) → j + k ≡ 64 → (h * 2 ^ j + l / 2 ^ k) * 2 ^ 64 + l * 2 ^ j % 2 ^ 64 ≡ (h * 2 ^ 64 + l) * 2 ^ j
longer_up h l j k e = omega (arith, word_up l j k e, pushed h l (2 ^ j))

-- the higher part has room for the shift
pub high_fits : (h l j room : ℕ) → (h * 2 ^ 64 + l) * 2 ^ j < 2 ^ (room + 64) → h * 2 ^ j < 2 ^ room
high_fits h l j room fits = omega (arith, fits, pushed h l (2 ^ j), pow-add 2 room 64)

-- a word and the higher part, shifted down
pub longer_down : (h l j k : ℕ) → k + j ≡ 64 → l < 2 ^ 64 → h / 2 ^ j * 2 ^ 64 + bit_or (h % 2 ^ 64 * 2 ^ k % 2 ^ 64) (l / 2 ^ j) ≡ (h * 2 ^ 64 + l) / 2 ^ j
longer_down h l j k e p =
    let P : ℕ → Type 0 = λ n. (n * 2 ^ 64 + l) / 2 ^ j ≡ n / 2 ^ j * 2 ^ 64 + bit_or (h % 2 ^ 64 * 2 ^ k % 2 ^ 64) (l / 2 ^ j) in
    sym (subst P (shr_split h 64) (shr_words 64 (h / 2 ^ 64) (h % 2 ^ 64) l j k e p))

-- a word and the higher part, shifted up, with bits that come from below
pub longer_over : (h l b j k : ℕ) → j + k ≡ 64 → (h * 2 ^ j + l / 2 ^ k) * 2 ^ 64 + (l * 2 ^ j % 2 ^ 64 + b / 2 ^ k) ≡ (h * 2 ^ 64 + l) * 2 ^ j + b / 2 ^ k
longer_over h l b j k e = omega (arith, longer_up h l j k e)

pub within : (n : ℕ) → n < 2 ^ 64 → n % 2 ^ 64 ≡ n
within n h = omega (arith, h)

-- a word and the higher part are both 0
pub zero_longer : (h l : ℕ) → (h * 2 ^ 64 + l == 0) ≡ ((l == 0) && (h == 0))
zero_longer zero zero = refl
zero_longer zero (suc l) = ne_eqb (0 * 2 ^ 64 + suc l) 0 (λ e. absurd (omega arith)) ∙ sym (ap (λ t. t && (0 == 0)) (ne_eqb (suc l) 0 (λ e. absurd (omega arith))))
zero_longer (suc h) zero = ne_eqb (suc h * 2 ^ 64 + 0) 0 (λ e. absurd (omega arith)) ∙ sym (ne_eqb (suc h) 0 (λ e. absurd (omega arith)))
zero_longer (suc h) (suc l) = ne_eqb (suc h * 2 ^ 64 + suc l) 0 (λ e. absurd (omega arith)) ∙ sym (ap (λ t. t && (suc h == 0)) (ne_eqb (suc l) 0 (λ e. absurd (omega arith))))

cross : (a b c d : Bool) → ((a && b) && (c && d)) ≡ ((a && c) && (b && d))
cross true true c d = refl
cross true false true d = refl
cross true false false d = refl
cross false b c d = refl

-- two such numbers are both 0
pub none_set : (h l g m : ℕ) → ((l == 0 && m == 0) && (h == 0 && g == 0)) ≡ ((h * 2 ^ 64 + l == 0) && (g * 2 ^ 64 + m == 0))
none_set h l g m = cross (l == 0) (m == 0) (h == 0) (g == 0) ∙ sym (ap₂ (λ (a b : Bool). a && b) (zero_longer h l) (zero_longer g m))
