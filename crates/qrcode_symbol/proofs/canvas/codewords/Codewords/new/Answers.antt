use Rattle.std.proofs.Common.{refl}
use Rattle.qrcode_types.specs.Bits.{number_bits}
use Rattle.qrcode_symbol.specs.Canvas.{drawn_bits}
use Rattle.qrcode_symbol.proofs.canvas.codewords.Codewords.new.Goals as goal

pub returns : goal.returns
unfolding drawn_bits number_bits
returns c = rw c.has_half_codeword.ensures refl
