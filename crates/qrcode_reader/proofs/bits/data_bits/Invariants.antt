use Rattle.std.proofs.Common.{◌≡◌, take}
use Rattle.qrcode_types.specs.Bits.{bits_of}
use Rattle.qrcode_reader.proofs.bits.data_bits.Given as goal

abbrev pub invariant-loop-byte : goal.invariant-loop-byte
invariant-loop-byte l = l.bits.items ≡ bits_of (take l.byte-index l.bytes)
