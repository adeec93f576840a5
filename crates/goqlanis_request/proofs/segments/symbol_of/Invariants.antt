use Rattle.qrcode_bits.specs.Manners.{rank}
use Rattle.goqlanis_request.specs.Segments.{first_of}
use Rattle.goqlanis_request.proofs.Held.{NoneHolds}
use Rattle.goqlanis_request.proofs.segments.symbol_of.Given as goal

-- no version with a smaller rank holds the segments
abbrev pub invariant-loop-place : goal.invariant-loop-place
invariant-loop-place l = NoneHolds l.level l.fn.segments (rank (first_of l.fn.choice)) l.place
