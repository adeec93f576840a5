use Rattle.std.proofs.Common.{◌≡◌, ◌+◌, List, [], ◌∷◌, ◌++◌, take, sym, subst, arith}
use Rattle.std.proofs.lemmas.Grind.{common_steps}
use Rattle.qrcode_check.specs.declared.checking.Check.{Check}
use Rattle.goqlanis_buffers.specs.Checking.{AreToldChecks, IsToldCheck}
use Rattle.goqlanis_buffers.specs.declared.checking.Checked.{Checked}
use Rattle.goqlanis_buffers.proofs.Squares.{zip_taken}
use Rattle.goqlanis_buffers.proofs.checking.checks_in.Goals as goal

pub loop-i-preserved : goal.loop-i-preserved
loop-i-preserved c =
    let pushed : c.push.new.self.items ≡ c.loop-i.all.items ++ c.told_check.result ∷ [] = grind (arith, common_steps) in
    subst (λ (told : List Checked). AreToldChecks (take (c.loop-i.i + 1) c.args.checks.now) told) (sym pushed)
    (zip_taken IsToldCheck c.args.checks.now c.loop-i.all.items c.loop-i.i c.index-checks-i.result c.told_check.result c.loop-i-test.true c.loop-i.invariant
    (subst (λ (check : Check). IsToldCheck check c.told_check.result) c.index-checks-i.is c.told_check.ensures))
