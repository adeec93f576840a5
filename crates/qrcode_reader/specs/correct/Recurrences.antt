-- Linear recurrences that sequences of bytes follow.
use Rattle.std.specs.Prelude.{◌≡◌, ℕ, ◌+◌, ◌<◌, ◌≤◌, List, slice_index, length}
use Rattle.qrcode_reader.specs.correct.Polynomials.{combined, EndsAt}

-- The first n values follow the polynomial f of this degree, whose leading coefficient is 1: f combines any degree + 1 of them in a row to zero.
pub record Follow (values : ℕ → ℕ) (n degree : ℕ) (f : List ℕ) : Type 0 where
  pub leads : slice_index f degree ≡ 1
  pub ends : EndsAt f (degree + 1)
  pub zero : (i : ℕ) → i + degree < n → combined f values i ≡ 0

-- The first n values follow f, and none of a lower degree.
pub record FollowShortest (values : ℕ → ℕ) (n degree : ℕ) (f : List ℕ) : Type 0 where
  pub follow : Follow values n degree f
  pub least : (other : ℕ) (g : List ℕ) → Follow values n other g → degree ≤ other

-- The state of the search after n values: a polynomial that they follow, and the one before the last change of the degree, which combines all values
-- to zero up to that point, where it combines them to `scale`.
pub record IsSearch (values : ℕ → ℕ) (n degree : ℕ) (current earlier : List ℕ) (scale : ℕ) : Type 0 where
  pub at_most : degree ≤ n
  pub follow : Follow values n degree current
  pub ends : (j : ℕ) → n < j + degree → slice_index earlier j ≡ 0
  pub before : (i : ℕ) → i + 1 < degree → combined earlier values i ≡ 0
  pub last : (i : ℕ) → i + 1 ≡ degree → combined earlier values i ≡ scale
  pub long_current : length current ≡ 72
  pub long_earlier : length earlier ≡ 72
  pub some : 0 < scale
