use Rattle.std.proofs.Common.{◌+◌, ◌≡◌, ◌*◌, ◌≤◌, ◌++◌, vec_len, vec_capacity}
use Rattle.qrcode_types.specs.Bits.{number_bits, bits_of}
use Rattle.qrcode_bits.proofs.bits.stream.push_whole_bytes.Given as goal

abbrev pub invariant-loop-left : goal.invariant-loop-left
invariant-loop-left l = record {
  bits : bits_of l.bytes.items ++ number_bits l.left l.number ≡ bits_of l.initial.bytes.items ++ number_bits l.length l.number;
  len : 8 * vec_len l.bytes + l.left ≡ 8 * vec_len l.initial.bytes + l.length;
  left : l.left ≤ l.length;
  capacity : vec_capacity l.initial.bytes ≤ vec_capacity l.bytes;
}

abbrev pub decreases-loop-left : goal.decreases-loop-left
decreases-loop-left l = l.left
