use Rattle.std.proofs.Common.{◌+◌, ◌-◌, ◌*◌, ◌/◌, ◌^◌, bit_or, ap, ap₂, ◌∙◌, arith}
use Rattle.qrcode_penalty.proofs.PairWords.{or_over, within}
use Rattle.qrcode_penalty.proofs.pair.WordPairRowPair.up_over.Goals as goal

pub returns-clause-upper : goal.returns-clause-upper
returns-clause-upper c =
    let a = c.args.self in
    let b = c.args.below in
    let j = c.args.count in
    c.or.ensures.upper ∙ ap₂ bit_or c.words_up.ensures.upper c.down.ensures.upper ∙ or_over a.upper b.upper j (64 - j) (omega arith) (omega arith)
    ∙ ap (λ n. n + b.upper / 2 ^ (64 - j)) (within (a.upper * 2 ^ j) c.requires.upper_fits)

pub returns-clause-lower : goal.returns-clause-lower
returns-clause-lower c =
    let a = c.args.self in
    let b = c.args.below in
    let j = c.args.count in
    c.or.ensures.lower ∙ ap₂ bit_or c.words_up.ensures.lower c.down.ensures.lower ∙ or_over a.lower b.lower j (64 - j) (omega arith) (omega arith)
    ∙ ap (λ n. n + b.lower / 2 ^ (64 - j)) (within (a.lower * 2 ^ j) c.requires.lower_fits)
