-- Divisions into segments (cuts) of bytes after FNC1, and a shortest one.
use Rattle.std.specs.Prelude.{◌≡◌, ℕ, ◌≤◌, List, length, slice_range, IsTrue}
use Rattle.std.specs.List.{AllByRecursion}
use Rattle.qrcode_types.specs.declared.types.Version.{Version}
use Rattle.qrcode_bits.specs.Segments.{Tile}
use Rattle.qrcode_bits.specs.Written.{pieces_of, written}
use Rattle.qrcode_bits.specs.declared.optimize.Segment.{Segment}
use Rattle.qrcode_gs1.specs.symbol.Characters.{can_stand, marked_pieces}

-- the segments cover the bytes, and each can write its bytes so that a reader gets them back
pub record IsMarkedCut (bytes : List ℕ) (segments : List Segment) : Type 0 where
  pub tiles : Tile 0 segments (length bytes)
  pub standing : AllByRecursion (λ s. IsTrue (can_stand s.mode (slice_range bytes s.begin s.end))) segments

abbrev pub marked_cost : Version → List ℕ → List Segment → ℕ  -- the bits that segments take as they are written
marked_cost v bytes segments = length (written v (marked_pieces bytes segments))

-- a cut that takes no more bits than any other
pub record IsLeastMarkedCut (v : Version) (bytes : List ℕ) (segments : List Segment) : Type 0 where
  pub reached : IsMarkedCut bytes segments
  pub least : (others : List Segment) → IsMarkedCut bytes others → marked_cost v bytes segments ≤ marked_cost v bytes others

-- the characters that segments write, one after the other, and the ranges of these
pub record AreCharacters (bytes : List ℕ) (segments : List Segment) (characters : List ℕ) (ranges : List Segment) : Type 0 where
  pub tiles : Tile 0 ranges (length characters)
  pub pieces : pieces_of characters ranges ≡ marked_pieces bytes segments
