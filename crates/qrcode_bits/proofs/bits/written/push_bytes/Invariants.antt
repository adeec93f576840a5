use Rattle.std.proofs.Common.{◌≡◌, ◌-◌, ◌*◌, ◌≤◌, ◌++◌, length, take}
use Rattle.qrcode_types.specs.Bits.{bits_of}
use Rattle.qrcode_bits.proofs.bits.written.push_bytes.Given as goal

abbrev pub invariant-loop-byte : goal.invariant-loop-byte
invariant-loop-byte l = record {
  bits : l.stream.bits ≡ l.initial.stream.bits ++ bits_of (take l.byte-index l.bytes);
  room : 8 * (length l.bytes - l.byte-index) ≤ l.stream.room;
}
