use Rattle.std.proofs.Common.{◌≡◌, ℕ, ◌++◌, length, take, drop, IsTrue, sym, subst, rules}
use Rattle.std.proofs.Math.Seq.{take-append_seam}
use Rattle.qrcode_layout.specs.Masks.{exists_in}
use Rattle.qrcode_symbol.specs.Symbol.{IsSymbol}
use Rattle.qrcode.specs.Code.{Code}
use Rattle.qrcode.specs.Reading.{IsUnderMask}
use Rattle.qrcode.proofs.OtherMasks.{under_mask}
use Rattle.qrcode.proofs.QrCode.under_mask.Goals as goal

pub returns-clause-symbol : goal.returns-clause-symbol
returns-clause-symbol c =
    let z = c.self.inside in
    let own = c.mask.result in
    let copied : c.deref_mut.result.now ≡ z.content.items = search rules in
    let new = c.remask.new.modules in
    let count : length new ≡ c.in_ok-modules.modules.len = search rules in
    let rest = drop (length new) c.in_ok-modules.modules.items in
    let written : take c.in_ok-modules.modules.len (new ++ rest) ≡ new = subst (λ (n : ℕ). take n (new ++ rest) ≡ new) count (take-append_seam new rest) in
    subst (IsUnderMask c.args.self.now.version c.args.self.now.level c.args.mask c.args.self.now.modules) (sym written)
    (subst (λ (code : Code). IsUnderMask code.version code.level c.args.mask code.modules c.remask.new.modules) c.self.view_is
    (under_mask z.version z.ec_level own c.args.mask z.content.items c.remask.new.modules c.self.invariant.0
    (subst (λ (code : Code). IsTrue (exists_in code.version c.args.mask)) (sym c.self.view_is) c.requires.mask_exists)
    (λ bits j has is. c.mask.ensures.only bits j
    (subst (λ (code : Code). IsTrue (exists_in code.version j)) c.self.view_is has) (subst (λ (code : Code). IsSymbol code.version code.level bits j code.modules) c.self.view_is is))
    (λ bits is. c.remask.ensures.symbol bits (subst (IsSymbol z.version z.ec_level bits own) (sym copied) is))))
