use Rattle.std.proofs.Common.{refl, append_assoc}
use Rattle.qrcode_bits.specs.Written.{ending}
use Rattle.qrcode_bits.proofs.Packing.{number_bits-zero}
use Rattle.qrcode_bits.proofs.bits.ending.push_ending.Goals as goal

pub returns : goal.returns
unfolding ending
returns c = rw (c.push_padding.ensures, c.push_number.ensures.bits, number_bits-zero, append_assoc, c.min-zeros_end.ensures, c.min.ensures) refl
