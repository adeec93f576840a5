-- What `push_optimal_data` does.
use Rattle.std.specs.Prelude.{◌≡◌, ℕ, ◌≤◌, Bool, List, flat_map}
use Rattle.std.specs.List.{AllByRecursion}
use Rattle.qrcode_types.specs.Versions.{capacity}
use Rattle.qrcode_types.specs.declared.types.Version.{Version}
use Rattle.qrcode_types.specs.declared.types.EcLevel.{EcLevel}
use Rattle.qrcode_types.specs.declared.types.QrError.{QrError}
use Rattle.qrcode_bits.specs.Segments.{total_cost}
use Rattle.qrcode_bits.specs.Cuts.{IsLeastCut}
use Rattle.qrcode_bits.specs.Written.{pieces_of}
use Rattle.qrcode_bits.specs.Spelling.{IsReadBack}
use Rattle.qrcode_bits.specs.Refusals.{StopsAt}
use Rattle.qrcode_bits.specs.Pushes.{PushesAll}
use Rattle.qrcode_bits.specs.declared.optimize.Segment.{Segment}

-- the segments of a least cut are written; if they fit a symbol, a reader accepts them
pub record PushesLeast (v : Version) (old : List Bool) (bytes : List ℕ) (new : List Bool) : Type 0 where
  pub segments : List Segment
  pub least : IsLeastCut v bytes segments
  pub pushed : PushesAll v old bytes segments new
  pub joined : flat_map (λ p. p.chunk) (pieces_of bytes segments) ≡ bytes
  pub readable : (l : EcLevel) → total_cost v segments ≤ capacity v l → AllByRecursion (IsReadBack v) (pieces_of bytes segments)

-- a segment of a least cut is rejected, and those before it are written
pub record StopsInLeast (v : Version) (old : List Bool) (bytes : List ℕ) (e : QrError) (new : List Bool) : Type 0 where
  pub segments : List Segment
  pub least : IsLeastCut v bytes segments
  pub stops : StopsAt v old (pieces_of bytes segments) e new
