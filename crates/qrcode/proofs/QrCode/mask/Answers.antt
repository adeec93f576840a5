use Rattle.std.proofs.Common.{◌≡◌, IsTrue, sym, subst}
use Rattle.qrcode_layout.specs.Masks.{exists_in}
use Rattle.qrcode_symbol.specs.Symbol.{HasPatterns}
use Rattle.qrcode.specs.Code.{Code}
use Rattle.qrcode.specs.Drawing.{IsMaskOf}
use Rattle.qrcode.proofs.QrCode.mask.Goals as goal

pub returns-clause-value : goal.returns-clause-value
returns-clause-value c =
    let v = c.self.inside.version in
    let l = c.self.inside.ec_level in
    let known = c.self.invariant.1.1.1 in
    let is : c.mask_of.result ≡ known.0 =
    c.mask_of.ensures l known.0 c.self.invariant.0 known.1.exists (subst (HasPatterns v l known.0) (sym c.deref.ensures.value) known.1.patterns) in
    subst (λ (code : Code). IsMaskOf code.version code.level c.mask_of.result code.modules) c.self.view_is
    (subst (λ k. IsMaskOf v l k c.self.inside.content.items) (sym is) known.1)

pub returns-clause-only : goal.returns-clause-only
returns-clause-only c = λ bits mask exists symbol.
    let v = c.self.inside.version in
    let l = c.self.inside.ec_level in
    let named = subst (λ (code : Code). HasPatterns code.version code.level mask code.modules) (sym c.self.view_is) symbol.patterns in
    sym (c.mask_of.ensures l mask c.self.invariant.0 (subst (λ (code : Code). IsTrue (exists_in code.version mask)) (sym c.self.view_is) exists) (subst (HasPatterns v l mask) (sym c.deref.ensures.value) named))
