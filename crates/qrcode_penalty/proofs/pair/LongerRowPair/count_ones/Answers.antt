use Rattle.std.proofs.Common.{arith}
use Rattle.std.proofs.lemmas.Nat.{ones_cat}
use Rattle.qrcode_penalty.proofs.pair.LongerRowPair.count_ones.Goals as goal

pub overflow_add-result : goal.overflow_add-result
overflow_add-result g c = omega (arith, c.count_ones.ensures.at_most, c.count_ones-2.ensures.at_most, g.met.P.ShortPair.short)

pub returns-clause-value : goal.returns-clause-value
returns-clause-value g c =
    let a = c.args.self in
    omega (arith, c.count_ones.ensures.value, c.count_ones-2.ensures.value, ones_cat 64 (g.P.RowPair.upper a.high) a.low.upper (omega arith), ones_cat 64 (g.P.RowPair.lower a.high) a.low.lower (omega arith))
