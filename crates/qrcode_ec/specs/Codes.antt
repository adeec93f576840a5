-- Lists of bytes as polynomials that vanish at powers of 2: Reed-Solomon codewords.
use Rattle.std.specs.Prelude.{◌≡◌, ℕ, ◌+◌, ◌-◌, ◌*◌, ◌/◌, ◌<◌, ◌≤◌, ◌==◌, List, [], ◌∷◌, length, slice_index, if◌then◌else◌}
use Rattle.std.specs.List.{AllByRecursion}
use Rattle.qrcode_types.specs.Bits.{AreBytes}
use Rattle.qrcode_types.specs.Polynomials.{xor_sum}
use Rattle.qrcode_ec.specs.Field.{product, power}

unfoldable pub syndrome : ℕ → List ℕ → ℕ  -- the value at the i-th power of 2 of the polynomial with these coefficients, highest power first
syndrome i c = xor_sum (length c) (λ j. product (slice_index c j) (power (i * (length c - 1 - j))))

abbrev pub Vanishes : List ℕ → ℕ → Type 0  -- the polynomial is zero at the first n powers of 2
Vanishes c n = (i : ℕ) → i < n → syndrome i c ≡ 0

abbrev pub distance : List ℕ → List ℕ → ℕ  -- the number of places where two lists of the same length differ
distance [] ys = 0
distance (x ∷ xs) [] = 0
distance (x ∷ xs) (y ∷ ys) = (if x == y then 0 else 1) + distance xs ys

-- any other list of as many bytes that vanishes at the n points differs from c in more than n places
abbrev pub HasDistanceAbove : ℕ → List ℕ → Type 0
HasDistanceAbove n c = (other : List ℕ) → AreBytes other → length other ≡ length c → Vanishes other n → distance c other ≤ n → other ≡ c

-- c corrects r: a list of bytes as long as r that vanishes at n points, and differs from r in at most n/2 places
pub record Corrects (r : List ℕ) (n : ℕ) (c : List ℕ) : Type 0 where
  pub equal_length : length r ≡ length c
  pub bytes : AllByRecursion (λ byte. byte < 256) c
  pub vanishes : Vanishes c n
  pub near : distance r c ≤ n / 2
