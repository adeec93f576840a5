use Rattle.std.proofs.Common.{◌==◌, ◌&&◌, ap, sym, ◌∙◌}
use Rattle.std.proofs.lemmas.Bool.{ne_eqb}
use Rattle.qrcode_penalty.proofs.PairWords.{zero_longer}
use Rattle.qrcode_penalty.proofs.row.LongerRowPackedRow.is_zero.Goals as goal

pub returns-then-self-eq0 : goal.returns-then-self-eq0
returns-then-self-eq0 g c =
    let a = c.args.self in
    let h = g.R.PackedRow.bits a.high in
    c.is_zero.ensures ∙ sym (ap (λ n. (n == 0) && (h == 0)) c.if-self-eq0.true) ∙ sym (zero_longer h a.low)

pub returns-else-self-eq0 : goal.returns-else-self-eq0
returns-else-self-eq0 g c =
    let a = c.args.self in
    let h = g.R.PackedRow.bits a.high in
    let is_set = ne_eqb a.low 0 c.if-self-eq0.false in
    is_set ∙ sym (ap (λ t. t && (h == 0)) is_set) ∙ sym (zero_longer h a.low)
