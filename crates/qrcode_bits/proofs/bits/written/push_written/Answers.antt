use Rattle.std.proofs.Common.{arith}
use Rattle.std.proofs.lemmas.Grind.{common_steps}
use Rattle.qrcode_bits.proofs.bits.written.push_written.Goals as goal

pub returns-in-Numeric : goal.returns-in-Numeric
returns-in-Numeric c = grind (arith, common_steps)

pub returns-in-Byte : goal.returns-in-Byte
returns-in-Byte c = grind (arith, common_steps)

pub returns-in-Kanji : goal.returns-in-Kanji
returns-in-Kanji c = grind (arith, common_steps)

pub returns-in-Alphanumeric : goal.returns-in-Alphanumeric
returns-in-Alphanumeric c = grind (arith, common_steps)
