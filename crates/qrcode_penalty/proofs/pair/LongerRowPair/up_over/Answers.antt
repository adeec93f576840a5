use Rattle.std.proofs.Common.{ℕ, ◌+◌, ◌-◌, ◌*◌, ◌^◌, bit_or, ap₂, ◌∙◌, arith}
use Rattle.qrcode_penalty.proofs.PairWords.{or_over, longer_over, high_fits}
use Rattle.qrcode_penalty.proofs.pair.LongerRowPair.up_over.Goals as goal

pub up_over-requires-clause-upper_fits : goal.up_over-requires-clause-upper_fits
up_over-requires-clause-upper_fits g c = high_fits (g.P.RowPair.upper c.args.self.high) c.args.self.low.upper c.args.count g.P.RowPair.room c.requires.upper_fits

pub up_over-requires-clause-lower_fits : goal.up_over-requires-clause-lower_fits
up_over-requires-clause-lower_fits g c = high_fits (g.P.RowPair.lower c.args.self.high) c.args.self.low.lower c.args.count g.P.RowPair.room c.requires.lower_fits

pub returns-clause-upper : goal.returns-clause-upper
returns-clause-upper g c =
    let a = c.args.self in
    let b = c.args.below in
    let j = c.args.count in
    let low = c.or.ensures.upper ∙ ap₂ bit_or c.words_up.ensures.upper c.down.ensures.upper ∙ or_over a.low.upper b.upper j (64 - j) (omega arith) (omega arith) in
    ap₂ (λ (h l : ℕ). h * 2 ^ 64 + l) c.up_over.ensures.upper low
    ∙ longer_over (g.P.RowPair.upper a.high) a.low.upper b.upper j (64 - j) (omega arith)

pub returns-clause-lower : goal.returns-clause-lower
returns-clause-lower g c =
    let a = c.args.self in
    let b = c.args.below in
    let j = c.args.count in
    let low = c.or.ensures.lower ∙ ap₂ bit_or c.words_up.ensures.lower c.down.ensures.lower ∙ or_over a.low.lower b.lower j (64 - j) (omega arith) (omega arith) in
    ap₂ (λ (h l : ℕ). h * 2 ^ 64 + l) c.up_over.ensures.lower low
    ∙ longer_over (g.P.RowPair.lower a.high) a.low.lower b.lower j (64 - j) (omega arith)
