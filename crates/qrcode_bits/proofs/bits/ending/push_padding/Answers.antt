use Rattle.std.proofs.Common.{◌%◌, ◌++◌, false, replicate, refl, ap, arith, append_assoc}
use Rattle.qrcode_bits.specs.Written.{padding}
use Rattle.qrcode_bits.proofs.Packing.{number_bits-zero}
use Rattle.qrcode_bits.proofs.Paddings.{padding_bytes, padding_bytes-more}
use Rattle.qrcode_bits.proofs.bits.ending.push_padding.Goals as goal

pub loop-i-preserved : goal.loop-i-preserved
loop-i-preserved c = record {
  bits = rw (c.push_number.ensures.bits, c.into.ensures, c.padding_byte.ensures, c.loop-i.invariant.bits, append_assoc, padding_bytes-more c.loop-i.i) refl;
  room = omega arith;
}

pub returns : goal.returns
unfolding padding
returns c = rw (c.push_number-2.ensures.bits, number_bits-zero, c.loop-i.invariant.bits, append_assoc) (ap (λ n. c.args.stream.now.bits ++ (padding_bytes n ++ replicate (c.args.count % 8) false)) (omega arith))
