use Rattle.std.proofs.Common.{◌≡◌, ◌<◌, ◌^◌, take}
use Rattle.qrcode_types.specs.Bits.{number_bits}
use Rattle.qrcode_reader.proofs.spell.fields.number_of.Given as goal

abbrev pub invariant-loop-bit : goal.invariant-loop-bit
invariant-loop-bit l = record {
  value : number_bits l.bit-index l.number ≡ take l.bit-index l.bits;
  at_most : l.number < 2 ^ l.bit-index;
}
