use Rattle.std.proofs.Common.{arith}
use Rattle.std.proofs.lemmas.Grind.{common_steps}
use Rattle.qrcode_bits.proofs.optimize.total_encoded_len.Goals as goal

pub overflow_add-total : goal.overflow_add-total
overflow_add-total c = grind (arith, common_steps)

pub loop-segment-preserved : goal.loop-segment-preserved
loop-segment-preserved c = grind (arith, common_steps)

pub encoded_len-total-requires-clause-ordered : goal.encoded_len-total-requires-clause-ordered
encoded_len-total-requires-clause-ordered c = grind (arith, common_steps)

pub returns : goal.returns
returns c = grind (arith, common_steps)
