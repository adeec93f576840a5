use Rattle.std.proofs.Common.{◌≡◌, take, sym, arith, rules, subst, All}
use Rattle.std.proofs.lemmas.List.{take_all}
use Rattle.qrcode_scan.specs.Wholes.{AreSame}
use Rattle.qrcode_scan.specs.declared.grids.Grid.{Grid}
use Rattle.qrcode_scan.proofs.wholes.is_known.Goals as goal

pub returns-then-is_same-clause-known : goal.returns-then-is_same-clause-known
returns-then-is_same-clause-known c = λ is.
    let same : AreSame c.other-item.result c.args.grid.now = search rules in
    (c.loop-other.other-index, c.other-item.result, omega arith, sym c.other-item.is, same)

pub returns-clause-new : goal.returns-clause-new
returns-clause-new c = λ is.
    let whole : take c.loop-other.other-index c.args.grids.now ≡ c.args.grids.now = take_all c.loop-other.other-index c.args.grids.now (omega arith) in
    subst (All (λ (other : Grid). ¬ AreSame other c.args.grid.now)) whole c.loop-other.invariant
