use Rattle.std.proofs.Common.{ℕ, ◌+◌, ◌-◌, ◌*◌, ◌%◌, ◌^◌, bit_or, ap, ap₂, ◌∙◌, arith}
use Rattle.qrcode_penalty.proofs.PairWords.{longer_down}
use Rattle.qrcode_penalty.proofs.pair.LongerRowPair.down.Goals as goal

pub returns-clause-upper : goal.returns-clause-upper
returns-clause-upper g c =
    let a = c.args.self in
    let j = c.args.count in
    let over = c.words_up-over.ensures.upper ∙ ap (λ n. n * 2 ^ (64 - j) % 2 ^ 64) c.first_words.ensures.upper in
    ap₂ (λ (h l : ℕ). h * 2 ^ 64 + l) c.down-2.ensures.upper (c.or.ensures.upper ∙ ap₂ bit_or over c.down.ensures.upper)
    ∙ longer_down (g.P.RowPair.upper a.high) a.low.upper j (64 - j) (omega arith) (omega arith)

pub returns-clause-lower : goal.returns-clause-lower
returns-clause-lower g c =
    let a = c.args.self in
    let j = c.args.count in
    let over = c.words_up-over.ensures.lower ∙ ap (λ n. n * 2 ^ (64 - j) % 2 ^ 64) c.first_words.ensures.lower in
    ap₂ (λ (h l : ℕ). h * 2 ^ 64 + l) c.down-2.ensures.lower (c.or.ensures.lower ∙ ap₂ bit_or over c.down.ensures.lower)
    ∙ longer_down (g.P.RowPair.lower a.high) a.low.lower j (64 - j) (omega arith) (omega arith)
