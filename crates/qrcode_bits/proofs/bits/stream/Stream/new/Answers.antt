use Rattle.std.proofs.Common.{refl}
use Rattle.qrcode_types.specs.Bits.{number_bits}
use Rattle.qrcode_bits.proofs.bits.stream.Stream.new.Goals as goal

pub returns : goal.returns
unfolding number_bits
returns c = rw c.new.ensures.items refl
