use Rattle.std.proofs.Common.{◌≡◌, ◌+◌, ◌-◌, ◌≤◌, length, drop}
use Rattle.qrcode_bits.specs.Segments.{Tile}
use Rattle.qrcode_gs1.specs.symbol.Cuts.{marked_cost}
use Rattle.qrcode_gs1.specs.symbol.Fewest.{headers_of}
use Rattle.qrcode_gs1.proofs.Bounds.{fewest}
use Rattle.qrcode_gs1.proofs.Cuts.{AreStanding}
use Rattle.qrcode_gs1.proofs.symbol.least.least_segments.Given as goal

abbrev pub invariant-loop-begin : goal.invariant-loop-begin
invariant-loop-begin l = record {
  inside : l.begin ≤ length l.bytes;
  tiles : Tile 0 l.segments.items l.begin;
  standing : AreStanding l.bytes l.segments.items;
  bits : marked_cost l.fn.version l.bytes l.segments.items + fewest (headers_of l.fn.version) (drop l.begin l.bytes) ≡ fewest (headers_of l.fn.version) l.bytes;
}

abbrev pub decreases-loop-begin : goal.decreases-loop-begin
decreases-loop-begin l = length l.bytes - l.begin
