-- Segments that are appended one by one.
use Rattle.std.proofs.Common.{◌≡◌, ℕ, ◌+◌, ◌<◌, Bool, List, ◌++◌, length, get_or, take, None, below_more}
use Rattle.std.proofs.lemmas.Option.{get_or_from_slice_get}
use Rattle.qrcode_types.specs.declared.types.Version.{Version}
use Rattle.qrcode_scan.proofs.Pieces.{flat_map_more}
use Rattle.goqlanis_buffers.specs.Segments.{segment_bits, segment_refusal, written_segments, AreTaken}
use Rattle.goqlanis_buffers.specs.declared.segments.Segment.{Segment}

-- the bits of i + 1 segments are those of i, and of the next one
pub written_more : (v u : Version) (segments : List Segment) (i : ℕ) (d : Segment) (old new : List Bool) → i < length segments
    → u ≡ v → old ≡ written_segments v (take i segments) → new ≡ old ++ segment_bits u (get_or segments i d) → new ≡ written_segments v (take (i + 1) segments)
written_more v u segments i d old new inside same before after = let step = flat_map_more (segment_bits v) segments i d inside in cc

-- if i segments have no error, and the next one has none after them, then i + 1 have none
pub taken_more : (v u : Version) (segments : List Segment) (i : ℕ) (d : Segment) (old : List Bool)
    → u ≡ v → old ≡ written_segments v (take i segments) → AreTaken v segments i → segment_refusal u (length old) (get_or segments i d) ≡ None
    → AreTaken v segments (i + 1)
taken_more v u segments i d old same bits before none = below_more _ i before (λ s at. let is = get_or_from_slice_get segments i s d at in cc)
