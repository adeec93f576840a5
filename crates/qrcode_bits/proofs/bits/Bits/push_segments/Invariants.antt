use Rattle.std.proofs.Common.{◌≡◌}
use Rattle.qrcode_bits.specs.Pushes.{PushesAll}
use Rattle.qrcode_bits.proofs.bits.Bits.push_segments.Given as goal

abbrev pub invariant-loop-segment : goal.invariant-loop-segment
invariant-loop-segment g l = record {
  version : l.self.version ≡ l.fn.self.version;
  pushed : PushesAll l.fn.self.version l.fn.self.bits l.fn.bytes l.yielded l.self.bits;
}
