use Rattle.std.proofs.Common.{arith}
use Rattle.std.proofs.lemmas.Nat.{and_block}
use Rattle.qrcode_penalty.proofs.pair.LongerRowPair.and.Goals as goal

pub returns-clause-upper : goal.returns-clause-upper
returns-clause-upper g c = grind (arith, and_block 64, c.and.ensures.upper, c.and-2.ensures.upper)

pub returns-clause-lower : goal.returns-clause-lower
returns-clause-lower g c = grind (arith, and_block 64, c.and.ensures.lower, c.and-2.ensures.lower)
