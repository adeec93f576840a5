use Rattle.std.proofs.Common.{◌≡◌, ◌+◌, List, [], ◌∷◌, ◌++◌, take, sym, subst, arith}
use Rattle.std.proofs.lemmas.Grind.{common_steps}
use Rattle.qrcode_scan.specs.declared.scanning.Scan.{Scan}
use Rattle.goqlanis_buffers.specs.Scanning.{AreCodesOf, IsToldOf}
use Rattle.goqlanis_buffers.specs.declared.scanning.Code.{Code}
use Rattle.goqlanis_buffers.proofs.Squares.{zip_taken}
use Rattle.goqlanis_buffers.proofs.scanning.codes_in.Goals as goal

pub loop-i-preserved : goal.loop-i-preserved
loop-i-preserved c =
    let pushed : c.push.new.self.items ≡ c.loop-i.all.items ++ c.told_code.result ∷ [] = grind (arith, common_steps) in
    subst (λ (codes : List Code). AreCodesOf (take (c.loop-i.i + 1) c.args.scans.now) codes) (sym pushed)
    (zip_taken IsToldOf c.args.scans.now c.loop-i.all.items c.loop-i.i c.index-scans-i.result c.told_code.result c.loop-i-test.true c.loop-i.invariant
    (subst (λ (scan : Scan). IsToldOf scan c.told_code.result) c.index-scans-i.is c.told_code.ensures))
