use Rattle.std.proofs.Common.{◌≡◌, ◌+◌, ◌*◌, ◌≤◌, ◌++◌}
use Rattle.qrcode_bits.proofs.Paddings.{padding_bytes}
use Rattle.qrcode_bits.proofs.bits.ending.push_padding.Given as goal

abbrev pub invariant-loop-i : goal.invariant-loop-i
invariant-loop-i l = record {
  bits : l.stream.bits ≡ l.initial.stream.bits ++ padding_bytes l.i;
  room : l.initial.stream.room ≤ l.stream.room + 8 * l.i;
}
