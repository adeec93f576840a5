use Rattle.std.proofs.Common.{map, subst, ◌∙◌}
use Rattle.qrcode_gs1.specs.Items.{item}
use Rattle.qrcode_gs1.specs.symbol.Symbols.{IsMarkedRefused}
use Rattle.qrcode_gs1.specs.declared.symbol.Fnc1.TheVariants.{First}
use Rattle.qrcode_gs1.proofs.MarkedElements.{symbol_refused}
use Rattle.qrcode_gs1.proofs.symbol.gs1_from.Goals as goal

pub returns-in_err-symbol-clause-causes : goal.returns-in_err-symbol-clause-causes
returns-in_err-symbol-clause-causes c =
    let l = c.args.ec_level in
    let e = c.in_err-symbol.field-0.0 in
    symbol_refused c.args.from l (map item c.args.elements.now) c.from_residual-in_err-symbol.result e c.from_residual-in_err-symbol.ensures c.in_ok-bytes.ensures.reads.0
    (subst (λ xs. IsMarkedRefused c.args.from First l xs e) (c.deref.ensures.value ∙ c.in_ok-bytes.ensures.value) c.in_err-symbol.ensures.causes)
