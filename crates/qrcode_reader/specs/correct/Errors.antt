-- What a block and its correction differ by, place by place from the last byte.
use Rattle.std.specs.Prelude.{◌≡◌, ℕ, ◌-◌, ◌<◌, ◌≤◌, List, length, slice_index, bit_xor}
use Rattle.qrcode_types.specs.Bits.{AreBytes}
use Rattle.qrcode_ec.specs.Codes.{syndrome}
use Rattle.qrcode_reader.specs.correct.Recurrences.{FollowShortest}

abbrev pub error_at : List ℕ → List ℕ → ℕ → ℕ  -- what the byte at a place, counted from the last byte, and its correction differ by
error_at block corrected place = bit_xor (slice_index block (length block - 1 - place)) (slice_index corrected (length block - 1 - place))

abbrev pub AreSyndromes : (ℕ → ℕ) → ℕ → List ℕ → Type 0  -- the values are the first n syndromes of the block
AreSyndromes values n block = (i : ℕ) → i < n → values i ≡ syndrome i block

-- f is a polynomial of the lowest degree that the first n syndromes of the block follow
pub record IsLocator (block : List ℕ) (values : ℕ → ℕ) (n degree : ℕ) (f : List ℕ) : Type 0 where
  pub bytes : AreBytes block
  pub at_most : degree ≤ n
  pub short : length block ≤ 255
  pub syndromes : AreSyndromes values n block
  pub shortest : FollowShortest values n degree f
