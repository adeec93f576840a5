use Rattle.std.proofs.Common.{arith}
use Rattle.std.proofs.lemmas.Nat.{or_block}
use Rattle.qrcode_penalty.proofs.pair.LongerRowPair.or.Goals as goal

pub returns-clause-upper : goal.returns-clause-upper
returns-clause-upper g c = grind (arith, or_block 64, c.or.ensures.upper, c.or-2.ensures.upper)

pub returns-clause-lower : goal.returns-clause-lower
returns-clause-lower g c = grind (arith, or_block 64, c.or.ensures.lower, c.or-2.ensures.lower)
