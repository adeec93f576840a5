use Rattle.std.proofs.Common.{◌≡◌, List, length, sym, ap, subst, ◌∙◌}
use Rattle.std.specs.List.{each_same}
use Rattle.qrcode_types.specs.declared.types.Color.{Color}
use Rattle.qrcode.specs.Code.{Code}
use Rattle.qrcode.specs.Drawing.{IsMaskOf}
use Rattle.qrcode.proofs.QrCodeClone.clone.Goals as goal
use Rattle.qrcode.proofs.QrCodeClone.clone.Goals.{In_ok-clone}

-- the colours are those of the symbol
same : (c : In_ok-clone) → c.in_ok-clone.field-0.items ≡ c.self.inside.content.items
same c = each_same c.self.inside.content.items c.in_ok-clone.field-0.items c.in_ok-clone.ensures.cases.0

pub invariant_of-result : goal.invariant_of-result
invariant_of-result c =
    let z = c.self.inside in
    let inv = c.self.invariant in
    let e = same (goal.at.invariant_of-result c).In_ok-clone in
    (inv.0, (inv.1.0, (ap length e ∙ inv.1.1.0, (inv.1.1.1.0, subst (IsMaskOf z.version z.ec_level inv.1.1.1.0) (sym e) inv.1.1.1.1))))

pub returns : goal.returns
returns c =
    let z = c.self.inside in
    let code : List Color → Code = λ modules. record { version = z.version; level = z.ec_level; modules = modules } in
    record { cases = ap code (same (goal.at.returns c).In_ok-clone) ∙ c.self.view_is }
