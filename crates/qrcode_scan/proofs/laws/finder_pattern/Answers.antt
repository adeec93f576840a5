use Rattle.std.proofs.Common.{refl}
use Rattle.qrcode_types.specs.Bits.{number_bits}
use Rattle.qrcode_scan.proofs.laws.finder_pattern.Goals as goal

pub returns : goal.returns
unfolding number_bits
returns c = refl
