use Rattle.std.proofs.Common.{◌≡◌, length, map, ap, sym, subst, ◌∙◌}
use Rattle.qrcode_symbol.specs.declared.canvas.Module.TheVariants.{Masked}
use Rattle.qrcode_symbol.specs.Canvas.{Drawing}
use Rattle.qrcode_symbol.specs.Masking.{IsBestMasked, AreBestColors}
use Rattle.qrcode_symbol.proofs.BestMasks.{best_modules, length_best}
use Rattle.qrcode_symbol.proofs.canvas.Canvas.apply_best_mask.Goals as goal
use Rattle.qrcode_symbol.proofs.canvas.Canvas.apply_best_mask.Goals.{In_ok-modules}

-- the modules are those of the best colours
modules_are : (c : In_ok-modules) → c.in_ok-modules.modules.items ≡ map (λ c. Masked c) c.in_ok-colors.colors.items
modules_are c = c.in_ok-modules.ensures ∙ ap (map (λ c. Masked c)) c.deref.ensures.value

pub invariant_of-result : goal.invariant_of-result
invariant_of-result c =
    let canvas = c.self.inside in
    let seen = c.self.view_is in
    let best = subst (λ (d : Drawing). AreBestColors d.version d.level d.modules c.in_ok-colors.colors.items) (sym seen) c.in_ok-colors.ensures.best in
    (c.self.invariant.0, ap length (modules_are (goal.at.invariant_of-result c).In_ok-modules) ∙ length_best canvas.version canvas.ec_level canvas.modules.items c.in_ok-colors.colors.items best)

pub returns-clause-masked : goal.returns-clause-masked
returns-clause-masked c =
    let old = c.args.self.now in
    subst (IsBestMasked old.version old.level old.modules) (sym (modules_are (goal.at.returns-clause-masked c).In_ok-modules))
    (best_modules old.version old.level old.modules c.in_ok-colors.colors.items c.in_ok-colors.ensures.best)
