use Rattle.std.proofs.Common.{◌==◌, ◌&&◌, ap, sym, ◌∙◌}
use Rattle.qrcode_penalty.proofs.PairWords.{none_set}
use Rattle.qrcode_penalty.proofs.pair.LongerRowPair.is_zero.Goals as goal

pub returns-then-is_zero : goal.returns-then-is_zero
returns-then-is_zero g c =
    let a = c.args.self in
    let h = g.P.RowPair.upper a.high in
    let l = g.P.RowPair.lower a.high in
    c.is_zero-then-is_zero.ensures ∙ sym (ap (λ t. t && (h == 0 && l == 0)) (sym c.is_zero.ensures ∙ c.if-is_zero.true)) ∙ none_set h a.low.upper l a.low.lower

pub returns-else-is_zero : goal.returns-else-is_zero
returns-else-is_zero g c =
    let a = c.args.self in
    let h = g.P.RowPair.upper a.high in
    let l = g.P.RowPair.lower a.high in
    c.if-is_zero.false ∙ sym (ap (λ t. t && (h == 0 && l == 0)) (sym c.is_zero.ensures ∙ c.if-is_zero.false)) ∙ none_set h a.low.upper l a.low.lower
