use Rattle.std.proofs.Common.{◌≡◌, ◌+◌, ◌≤◌, length}
use Rattle.qrcode_types.specs.Bits.{number_bits, bit_distance}
use Rattle.qrcode_reader.proofs.formats.distance.Given as goal

abbrev pub invariant-loop-rest : goal.invariant-loop-rest
invariant-loop-rest l = record {
  value : l.count + bit_distance l.rest (number_bits (length l.rest) l.word) ≡ bit_distance l.bits (number_bits (length l.bits) l.word);
  at_most : l.count + length l.rest ≤ length l.bits;
}

abbrev pub decreases-loop-rest : goal.decreases-loop-rest
decreases-loop-rest l = length l.rest
