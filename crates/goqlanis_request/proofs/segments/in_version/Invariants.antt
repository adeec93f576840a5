use Rattle.std.proofs.Common.{drop}
use Rattle.goqlanis_request.proofs.Segmented.{LeavesRest}
use Rattle.goqlanis_request.proofs.segments.in_version.Given as goal

-- the segments before this one are written, without a cause to fail
abbrev pub invariant-loop-segment : goal.invariant-loop-segment
invariant-loop-segment l = LeavesRest l.fn.version l.fn.segments l.bits (drop l.segment-index l.fn.segments)
