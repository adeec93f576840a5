use Rattle.std.proofs.Common.{◌≡◌, ◌+◌, ◌-◌, ◌*◌, ◌/◌, ◌%◌, ◌^◌, ap, ◌∙◌, arith}
use Rattle.qrcode_penalty.proofs.PairWords.{or_over, within}
use Rattle.qrcode_penalty.proofs.row.U64PackedRow.up_over.Goals as goal

pub returns : goal.returns
returns c =
    let a = c.args.self in
    let b = c.args.below in
    let j = c.args.count in
    or_over a b j (64 - j) (omega arith) (omega arith) ∙ ap (λ n. n + b / 2 ^ (64 - j)) (within (a * 2 ^ j) c.requires.fits)
