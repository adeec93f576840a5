-- Data with few letters and digits together, for which a single Byte segment is the shortest.
use Rattle.std.specs.Prelude.{◌≡◌, ℕ, ◌+◌, ◌<◌, nat_le, ◌&&◌, ◌||◌, Bool, false, List, length, slice_index_or}

-- the first of four bytes may begin a Kanji pair, or all are at most `Z`, the largest alphanumeric byte
abbrev pub is_dense : ℕ → ℕ → ℕ → ℕ → Bool
is_dense a b c d = nat_le 129 a || nat_le a 90 && nat_le b 90 && nat_le c 90 && nat_le d 90

abbrev pub is_dense_at : List ℕ → ℕ → Bool  -- the four bytes from place i on are dense
is_dense_at bytes i = is_dense (slice_index_or bytes i 0) (slice_index_or bytes (i + 1) 0) (slice_index_or bytes (i + 2) 0) (slice_index_or bytes (i + 3) 0)

-- no byte can begin a Kanji pair, and no four neighbours are all at most `Z`
pub record IsSparse (bytes : List ℕ) : Type 0 where
  pub low : (i : ℕ) → i < length bytes → slice_index_or bytes i 0 < 129
  pub apart : (i : ℕ) → i + 3 < length bytes → is_dense_at bytes i ≡ false
