use Rattle.std.proofs.Common.{arith}
use Rattle.std.proofs.lemmas.Nat.{ones_cat}
use Rattle.qrcode_penalty.proofs.row.LongerRowPackedRow.count_ones.Goals as goal

pub returns-clause-value : goal.returns-clause-value
returns-clause-value g c =
    let a = c.args.self in
    omega (arith, c.count_ones.ensures.value, ones_cat 64 (g.R.PackedRow.bits a.high) a.low (omega arith))
