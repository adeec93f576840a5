-- Cuts: divisions of the data into segments. A least cut is a shortest one.
use Rattle.std.specs.Prelude.{◌≡◌, ◌⊎◌, ℕ, ◌≤◌, List, length, flat_map, slice_range, sum_by, Result, Err, IfErr, IsOkUnless, IsTrue}
use Rattle.std.specs.List.{AllByRecursion}
use Rattle.qrcode_types.specs.Modes.{has_mode}
use Rattle.qrcode_types.specs.declared.types.Version.{Version}
use Rattle.qrcode_types.specs.declared.types.QrError.{QrError}
use Rattle.qrcode_types.specs.declared.types.QrError.TheVariants.{UnsupportedCharacterSet, OutOfMemory}
use Rattle.qrcode_types.specs.Characters.{can_write}
use Rattle.qrcode_bits.specs.ModeSets.{is_among}
use Rattle.qrcode_bits.specs.Segments.{AreInside, Tile, cost, total_cost}
use Rattle.qrcode_bits.specs.Written.{pieces_of}
use Rattle.qrcode_bits.specs.declared.optimize.mode_sets.Modes.{Modes}
use Rattle.qrcode_bits.specs.declared.optimize.Segment.{Segment}

-- the segments cover the data, and each is in a mode that the version has and that can write its bytes
pub record IsCut (v : Version) (bytes : List ℕ) (segments : List Segment) : Type 0 where
  pub tiles : Tile 0 segments (length bytes)
  pub modes : AllByRecursion (λ s. IsTrue (has_mode v s.mode)) segments
  pub writable : AllByRecursion (λ s. IsTrue (can_write s.mode (slice_range bytes s.begin s.end))) segments

pub record IsLeastCut (v : Version) (bytes : List ℕ) (segments : List Segment) : Type 0 where  -- a cut, and no other is shorter
  pub reached : IsCut v bytes segments
  pub least : (others : List Segment) → IsCut v bytes others → sum_by (cost v) segments ≤ sum_by (cost v) others

abbrev pub FitsIn : Version → List ℕ → ℕ → Type 0  -- some cut of the data takes at most `most` bits
FitsIn v bytes most = (segments : List Segment) × (IsCut v bytes segments × (total_cost v segments ≤ most))

-- a cut that uses only the modes of a set
pub record IsCutIn (set : Modes) (v : Version) (bytes : List ℕ) (segments : List Segment) : Type 0 where
  pub cut : IsCut v bytes segments
  pub among : AllByRecursion (λ s. IsTrue (is_among set s.mode)) segments

-- a cut that uses only the modes of a set, and no such cut is shorter
pub record IsLeastCutIn (set : Modes) (v : Version) (bytes : List ℕ) (segments : List Segment) : Type 0 where
  pub reached : IsCutIn set v bytes segments
  pub least : (others : List Segment) → IsCutIn set v bytes others → total_cost v segments ≤ total_cost v others

-- when a call fails that needs one of these cuts: if there is none, and otherwise only if memory runs out
pub record NeedsCut {A : Type 0} (Cuts : List Segment → Type 0) (result : Result A QrError) : Type 0 where
  pub no_cut : ((segments : List Segment) → ¬ Cuts segments) → result ≡ Err UnsupportedCharacterSet
  pub accepts : (segments : List Segment) → Cuts segments → IsOkUnless result OutOfMemory
  pub causes : IfErr result (λ e. (e ≡ UnsupportedCharacterSet) ⊎ (e ≡ OutOfMemory))

-- the ranges lie in the data, make it up in order, and each mode can write its range
pub record GiveBack (bytes : List ℕ) (segments : List Segment) : Type 0 where
  pub inside : AreInside (length bytes) segments
  pub joined : flat_map (λ p. p.chunk) (pieces_of bytes segments) ≡ bytes
  pub writable : AllByRecursion (λ p. IsTrue (can_write p.mode p.chunk)) (pieces_of bytes segments)
