use Rattle.std.proofs.Common.{◌-◌, arith}
use Rattle.std.proofs.lemmas.Nat.{one_shl, pow_pos}
use Rattle.qrcode_penalty.proofs.Words.{pow_split}
use Rattle.qrcode_penalty.proofs.row.LongerRowPackedRow.first.Goals as goal

pub first-requires : goal.first-requires
first-requires g c = g.met.R.PackedRow.room_at_least

pub returns-then-count-lt64 : goal.returns-then-count-lt64
returns-then-count-lt64 g c = omega (arith, c.first.ensures, one_shl c.args.count 64 c.if-count-lt64.true)

pub returns : goal.returns
returns g c =
    let n = c.args.count in
    omega (arith, c.first-2.ensures, pow_pos (n - 64), pow_split n 64 (omega arith))
