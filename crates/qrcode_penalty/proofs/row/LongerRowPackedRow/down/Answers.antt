use Rattle.std.proofs.Common.{◌+◌, ◌-◌, ◌*◌, ◌%◌, ◌/◌, ◌^◌, bit_or, ap, ap₂, ◌∙◌, arith}
use Rattle.qrcode_penalty.proofs.PairWords.{longer_down}
use Rattle.qrcode_penalty.proofs.row.LongerRowPackedRow.down.Goals as goal

pub returns : goal.returns
returns g c =
    let a = c.args.self in
    let j = c.args.count in
    ap₂ (λ h w. h * 2 ^ 64 + bit_or (w * 2 ^ (64 - j) % 2 ^ 64) (a.low / 2 ^ j)) c.down.ensures c.first_word.ensures
    ∙ longer_down (g.R.PackedRow.bits a.high) a.low j (64 - j) (omega arith) (omega arith)
