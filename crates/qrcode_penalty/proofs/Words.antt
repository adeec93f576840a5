-- Numbers of several words of 64 bits, shifted.
use Rattle.std.proofs.Common.{◌≡◌, ℕ, ◌+◌, ◌-◌, ◌*◌, ◌/◌, ◌%◌, ◌^◌, ◌<◌, ◌≤◌, ap, ap₂, sym, ◌∙◌, arith, bit_or, mul_assoc, mul_comm, add-mul, subst}
use Rattle.std.proofs.lemmas.Nat.{or_shifted, shr_split, pow-add, shr_high, shl-shr, mod-pow-add, mod_low, mod_below, pow_pos, shr_below, shr-shr}

-- a sum with a multiple of a power of two, shifted
shr-add : (u l j : ℕ) → (u * 2 ^ j + l) / 2 ^ j ≡ u + l / 2 ^ j
shr-add u l j =
    let e : u * 2 ^ j + l ≡ (u + l / 2 ^ j) * 2 ^ j + l % 2 ^ j = omega (arith, add-mul u (l / 2 ^ j) (2 ^ j), shr_split l j) in
    ap (λ n. n / 2 ^ j) e ∙ shr_high (u + l / 2 ^ j) j (l % 2 ^ j) (mod_below l (2 ^ j) (pow_pos j))

-- the low bits of a shifted number
pub shl-mod : (x j k : ℕ) → x * 2 ^ k % 2 ^ (j + k) ≡ (x % 2 ^ j) * 2 ^ k
shl-mod x j k =
    let none : x * 2 ^ k % 2 ^ k ≡ 0 = ap (λ n. n % 2 ^ k) (let e : x * 2 ^ k ≡ x * 2 ^ k + 0 = omega arith in e) ∙ mod_low x k 0 (pow_pos k) in
    mod-pow-add (x * 2 ^ k) j k ∙ ap₂ (λ (a b : ℕ). (a % 2 ^ j) * 2 ^ k + b) (shl-shr x k) none ∙ omega arith

-- a number in two parts, shifted by less than a part
pub shr_parts : (a l j k : ℕ) → l < 2 ^ (k + j) → (a * 2 ^ (k + j) + l) / 2 ^ j ≡ (a / 2 ^ j) * 2 ^ (k + j) + bit_or ((a % 2 ^ j) * 2 ^ k) (l / 2 ^ j)
shr_parts a l j k h =
    let front : a * 2 ^ (k + j) ≡ a * 2 ^ k * 2 ^ j = ap (λ p. a * p) (pow-add 2 k j) ∙ sym (mul_assoc a (2 ^ k) (2 ^ j)) in
    let cut : a * 2 ^ k ≡ (a / 2 ^ j) * 2 ^ (k + j) + (a % 2 ^ j) * 2 ^ k =
    ap (λ n. n * 2 ^ k) (sym (shr_split a j)) ∙ add-mul (a / 2 ^ j * 2 ^ j) (a % 2 ^ j) (2 ^ k)
    ∙ ap (λ n. n + (a % 2 ^ j) * 2 ^ k) (mul_assoc (a / 2 ^ j) (2 ^ j) (2 ^ k) ∙ ap (λ p. a / 2 ^ j * p) (mul_comm (2 ^ j) (2 ^ k) ∙ sym (pow-add 2 k j))) in
    ap (λ n. (n + l) / 2 ^ j) front ∙ shr-add (a * 2 ^ k) l j
    ∙ omega (arith, cut, or_shifted (a % 2 ^ j) k (l / 2 ^ j) (shr_below l k j h))

mod-add : (u l j : ℕ) → (u * 2 ^ j + l) % 2 ^ j ≡ l % 2 ^ j
mod-add u l j =
    let e : u * 2 ^ j + l ≡ (u + l / 2 ^ j) * 2 ^ j + l % 2 ^ j = omega (arith, add-mul u (l / 2 ^ j) (2 ^ j), shr_split l j) in
    ap (λ n. n % 2 ^ j) e ∙ mod_low (u + l / 2 ^ j) j (l % 2 ^ j) (mod_below l (2 ^ j) (pow_pos j))

-- `shr_parts` for words of k + j bits, with a higher word h after m
word_parts : (h m l j k : ℕ) → l < 2 ^ (k + j) → ((h * 2 ^ (k + j) + m) * 2 ^ (k + j) + l) / 2 ^ j ≡ (h * 2 ^ (k + j) + m) / 2 ^ j * 2 ^ (k + j) + bit_or (m * 2 ^ k % 2 ^ (k + j)) (l / 2 ^ j)
word_parts h m l j k p =
    let turn : k + j ≡ j + k = omega arith in
    let front : h * 2 ^ (k + j) + m ≡ h * 2 ^ k * 2 ^ j + m = ap (λ n. h * n + m) (pow-add 2 k j) ∙ ap (λ n. n + m) (sym (mul_assoc h (2 ^ k) (2 ^ j))) in
    let low : (h * 2 ^ (k + j) + m) % 2 ^ j ≡ m % 2 ^ j = ap (λ n. n % 2 ^ j) front ∙ mod-add (h * 2 ^ k) m j in
    shr_parts (h * 2 ^ (k + j) + m) l j k p
    ∙ ap (λ n. (h * 2 ^ (k + j) + m) / 2 ^ j * 2 ^ (k + j) + bit_or (n * 2 ^ k) (l / 2 ^ j)) low
    ∙ ap (λ n. (h * 2 ^ (k + j) + m) / 2 ^ j * 2 ^ (k + j) + bit_or n (l / 2 ^ j)) (sym (shl-mod m j k) ∙ ap (λ n. m * 2 ^ k % 2 ^ n) (sym turn))

pub shr_words : (w h m l j k : ℕ) → k + j ≡ w → l < 2 ^ w → ((h * 2 ^ w + m) * 2 ^ w + l) / 2 ^ j ≡ (h * 2 ^ w + m) / 2 ^ j * 2 ^ w + bit_or (m * 2 ^ k % 2 ^ w) (l / 2 ^ j)
shr_words w h m l j k e p =
    let P : ℕ → Type 0 = λ n. l < 2 ^ n → ((h * 2 ^ n + m) * 2 ^ n + l) / 2 ^ j ≡ (h * 2 ^ n + m) / 2 ^ j * 2 ^ n + bit_or (m * 2 ^ k % 2 ^ n) (l / 2 ^ j) in
    subst P e (λ q. word_parts h m l j k q) p

-- a word shifted to the left: the bits that leave it, and those that stay
pub word_shl : (l j k : ℕ) → (l / 2 ^ k) * 2 ^ (j + k) + l * 2 ^ j % 2 ^ (j + k) ≡ l * 2 ^ j
word_shl l j k =
    let over : l * 2 ^ j / 2 ^ (j + k) ≡ l / 2 ^ k = sym (shr-shr (l * 2 ^ j) j k) ∙ ap (λ n. n / 2 ^ k) (shl-shr l j) in
    ap (λ n. n * 2 ^ (j + k) + l * 2 ^ j % 2 ^ (j + k)) (sym over) ∙ shr_split (l * 2 ^ j) (j + k)

pub or_plus : (m l j k : ℕ) → l < 2 ^ (j + k) → bit_or (m * 2 ^ j % 2 ^ (j + k)) (l / 2 ^ k) ≡ m * 2 ^ j % 2 ^ (j + k) + l / 2 ^ k
or_plus m l j k h =
    let turn : k + j ≡ j + k = omega arith in
    let cut : m * 2 ^ j % 2 ^ (j + k) ≡ (m % 2 ^ k) * 2 ^ j = ap (λ n. m * 2 ^ j % 2 ^ n) (sym turn) ∙ shl-mod m k j in
    ap (λ n. bit_or n (l / 2 ^ k)) cut ∙ omega (arith, cut, or_shifted (m % 2 ^ k) j (l / 2 ^ k) (shr_below l j k h))

pub pow_split : (n k : ℕ) → k ≤ n → 2 ^ n ≡ 2 ^ (n - k) * 2 ^ k
pow_split n k h = let e : n ≡ n - k + k = omega arith in ap (λ m. 2 ^ m) e ∙ pow-add 2 (n - k) k
