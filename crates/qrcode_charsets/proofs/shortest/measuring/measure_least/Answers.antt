use Rattle.std.proofs.Common.{◌≡◌, ◌+◌, length, sym, subst, arith}
use Rattle.std.specs.Prelude.{chars}
use Rattle.qrcode_charsets.proofs.Leasts.{IsLeastOf, at_index, least_more}
use Rattle.qrcode_charsets.proofs.shortest.measuring.measure_least.Goals as goal

pub loop-set-preserved : goal.loop-set-preserved
loop-set-preserved c =
    let sets = c.args.sets.now in
    let text = chars c.args.text.now in
    let i = c.loop-set.set-index in
    subst (IsLeastOf sets c.args.version text (i + 1)) (sym c.less_of-least.ensures)
    (least_more sets c.args.version text i _ (at_index sets i _ c.loop-set-test.true) c.in_ok-found.found c.loop-set.least c.in_ok-found.ensures.measured c.loop-set.invariant)

pub returns-clause-measured : goal.returns-clause-measured
returns-clause-measured c =
    let sets = c.args.sets.now in
    let end : c.loop-set.set-index ≡ length sets = omega (arith, c.loop-set-test.false, c.loop-set.auto.set-index-end) in
    subst (λ k. IsLeastOf sets c.args.version (chars c.args.text.now) k c.loop-set.least) end c.loop-set.invariant
