use Rattle.std.proofs.Common.{◌≡◌, ◌<◌, ◌++◌, ◌∷◌, [], List, length, take, get_or, sym, ap, subst, arith, rules}
use Rattle.std.specs.List.{AllZip}
use Rattle.std.proofs.lemmas.Grind.{common_steps}
use Rattle.std.proofs.lemmas.List.{take_more}
use Rattle.qrcode_check.specs.declared.checking.Check.{Check}
use Rattle.qrcode_scan.specs.Checked.{IsCheckOfScan}
use Rattle.qrcode_scan.specs.declared.scanning.Scan.{Scan}
use Rattle.qrcode_scan.proofs.Checked.{zip_more}
use Rattle.qrcode_scan.proofs.checking.checked.Goals as goal

pub loop-scan-preserved : goal.loop-scan-preserved
loop-scan-preserved c =
    let xs = c.args.codes.scans.items in
    let i = c.loop-scan.scan-index in
    let s = c.scan-item.result in
    let check = c.in_ok-check_scan.field-0 in
    let inside : i < length xs = omega (arith, ap length c.deref-scan-items.ensures.value) in
    let item : s ≡ get_or xs i s = search rules in
    let pushed : c.push.new.self.items ≡ c.loop-scan.checks.items ++ check ∷ [] = grind (arith, common_steps) in
    subst (λ (l : List Scan). AllZip IsCheckOfScan l c.push.new.self.items) (sym (take_more xs i s inside))
    (subst (λ (ys : List Check). AllZip IsCheckOfScan (take i xs ++ get_or xs i s ∷ []) ys) (sym pushed)
    (zip_more IsCheckOfScan (take i xs) c.loop-scan.checks.items (get_or xs i s) check c.loop-scan.invariant (subst (λ (x : Scan). IsCheckOfScan x check) item c.in_ok-check_scan.ensures)))
