-- The tables that division by a generator uses.
use Rattle.std.specs.Prelude.{◌≡◌, ℕ, ◌*◌, ◌<◌, ◌≤◌, List, [], ◌∷◌, ◌++◌, length, slice_index, slice_index_or}
use Rattle.qrcode_ec.specs.Field.{product}
use Rattle.qrcode_ec.specs.Codes.{Vanishes}

-- each row k below `count` has the first 32 coefficients times k * unit
pub record AreMultiples (coefficients : List ℕ) (unit count : ℕ) (rows : List (List ℕ)) : Type 0 where
  pub at : (k j : ℕ) → k < count → j < 32 → slice_index (slice_index_or rows k []) j ≡ product (k * unit) (slice_index coefficients j)

-- the generator of this degree, which vanishes at that many powers of 2: without its leading 1, filled up with zeros
pub record IsGenerator (degree : ℕ) (generator : List ℕ) : Type 0 where
  pub long : length generator ≡ 72
  pub vanishes : Vanishes (1 ∷ generator) degree
  pub ends : (j : ℕ) → degree ≤ j → slice_index generator j ≡ 0

-- the generator of this degree, and the two tables of its multiples
pub record AreOfGenerator (degree : ℕ) (generator : List ℕ) (low high : List (List ℕ)) : Type 0 where
  pub generates : IsGenerator degree generator
  pub units : AreMultiples generator 1 16 low
  pub sixteens : AreMultiples generator 16 16 high

-- the register, with this many places, holds the remainder of the bytes done so far, and zeros after it
pub record IsRegister (degree room : ℕ) (done register : List ℕ) : Type 0 where
  pub long : length register ≡ room
  pub bytes : (j : ℕ) → slice_index register j < 256
  pub vanishes : Vanishes (done ++ register) degree
  pub ends : (j : ℕ) → degree ≤ j → slice_index register j ≡ 0
