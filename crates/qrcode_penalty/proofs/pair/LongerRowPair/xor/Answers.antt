use Rattle.std.proofs.Common.{arith}
use Rattle.std.proofs.lemmas.Nat.{xor_block}
use Rattle.qrcode_penalty.proofs.pair.LongerRowPair.xor.Goals as goal

pub returns-clause-upper : goal.returns-clause-upper
returns-clause-upper g c = grind (arith, xor_block 64, c.xor.ensures.upper, c.xor-2.ensures.upper)

pub returns-clause-lower : goal.returns-clause-lower
returns-clause-lower g c = grind (arith, xor_block 64, c.xor.ensures.lower, c.xor-2.ensures.lower)
