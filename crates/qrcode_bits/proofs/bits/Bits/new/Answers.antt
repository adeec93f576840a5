use Rattle.std.proofs.Common.{arith}
use Rattle.qrcode_bits.proofs.Shortness.{capacity_at_most}
use Rattle.qrcode_bits.proofs.bits.Bits.new.Goals as goal

pub returns-clause-room : goal.returns-clause-room
returns-clause-room c = λ level. omega (arith, capacity_at_most c.args.version level)
