-- Why elements have no symbol.
use Rattle.std.proofs.Common.{◌≡◌, ℕ, List, None, sym, subst, Result, Ok, Err, IfErr}
use Rattle.std.specs.Prelude.{IsErr, IsErrAnd}
use Rattle.qrcode_types.specs.declared.types.EcLevel.{EcLevel}
use Rattle.qrcode_types.specs.declared.types.QrError.{QrError}
use Rattle.qrcode_gs1.specs.Elements.{Item, element_string}
use Rattle.qrcode_gs1.specs.Refusals.{refusal_from}
use Rattle.qrcode.specs.Code.{Code}
use Rattle.qrcode_gs1.specs.symbol.Elements.{IsGs1Refused}
use Rattle.qrcode_gs1.specs.symbol.Symbols.{IsMarkedRefused}
use Rattle.qrcode_gs1.specs.declared.symbol.Fnc1.TheVariants.{First}
use Rattle.qrcode_gs1.specs.declared.symbol.errors.SymbolError.{SymbolError}
use Rattle.qrcode_gs1.specs.declared.symbol.errors.SymbolError.TheVariants.{Symbol}

-- why the element string has no symbol is why the elements have none
pub symbol_refused : (from : ℕ) (l : EcLevel) (items : List Item) (r : Result Code SymbolError) (e : QrError) → IsErr r × IsErrAnd r (λ x. x ≡ Symbol e) → refusal_from 0 items ≡ None
    → IsMarkedRefused from First l (element_string items) e → IfErr r (IsGs1Refused from l items)
symbol_refused from l items (Ok code) e is none cause = tt
symbol_refused from l items (Err x) e is none cause = subst (IsGs1Refused from l items) (sym is.1) (none, cause)
