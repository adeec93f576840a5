use Rattle.std.proofs.Common.{arith}
use Rattle.qrcode_charsets.proofs.Rows.{no_byte}
use Rattle.qrcode_charsets.proofs.sets.CodePage.byte.Goals as goal

pub returns : goal.returns
returns c = no_byte c.args.self c.args.character (omega arith) (λ i inside. c.loop-place.invariant i (omega arith))
