use Rattle.std.proofs.Common.{◌<◌, arith}
use Rattle.std.proofs.lemmas.Nat.{mul-add-lt}
use Rattle.std.proofs.Math.Nat.{mul-le-mul_left}
use Rattle.qrcode_symbol.proofs.canvas.filling.Pair.index.Goals.{then-self-eq0, else-self-eq0}
use Rattle.qrcode_symbol.proofs.canvas.filling.Pair.index.Goals as goal

pub returns-clause-inside : goal.returns-clause-inside
returns-clause-inside c =
    let p = c.args.self in
    let row : c.if-self-eq0.row < p.width = elim c.if-self-eq0.branch [ then-self-eq0 w ↦ omega (arith, w.row-is, c.requires) | else-self-eq0 w ↦ omega (arith, w.row-is, c.requires) ] in
    rw (← p.wide) (mul-add-lt c.if-self-eq0.row p.width p.right p.width row p.at_most)

pub returns-clause-small : goal.returns-clause-small
returns-clause-small c =
    let p = c.args.self in
    let row : c.if-self-eq0.row < p.width = elim c.if-self-eq0.branch [ then-self-eq0 w ↦ omega (arith, w.row-is, c.requires) | else-self-eq0 w ↦ omega (arith, w.row-is, c.requires) ] in
    omega (arith, mul-add-lt c.if-self-eq0.row p.width p.right p.width row p.at_most, mul-le-mul_left p.width p.small, p.small)
