use Rattle.std.proofs.Common.{◌≡◌, ◌+◌, ◌-◌, ◌≤◌, length}
use Rattle.qrcode_bits.specs.Segments.{Tile, total_cost}
use Rattle.qrcode_bits.proofs.LeastCuts.{HaveModes, AreAmong, AreWritable, bits_from}
use Rattle.qrcode_bits.proofs.optimize.least.searched_segments.Given as goal

abbrev pub invariant-loop-begin : goal.invariant-loop-begin
invariant-loop-begin l = record {
  inside : l.begin ≤ length l.bytes;
  tiles : Tile 0 l.segments.items l.begin;
  modes : HaveModes l.fn.version l.segments.items;
  among : AreAmong l.fn.modes l.segments.items;
  writable : AreWritable l.bytes l.segments.items;
  bits : total_cost l.fn.version l.segments.items + bits_from l.fn.modes l.fn.version l.bytes l.begin ≡ bits_from l.fn.modes l.fn.version l.bytes 0;
}

abbrev pub decreases-loop-begin : goal.decreases-loop-begin
decreases-loop-begin l = length l.bytes - l.begin
