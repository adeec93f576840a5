use Rattle.std.proofs.Common.{◌≡◌, ◌+◌, drop}
use Rattle.qrcode_bits.specs.Segments.{total_cost}
use Rattle.qrcode_bits.proofs.optimize.total_encoded_len.Given as goal

abbrev pub invariant-loop-segment : goal.invariant-loop-segment
invariant-loop-segment l = l.total + total_cost l.version (drop l.segment-index l.segments) ≡ total_cost l.version l.segments
