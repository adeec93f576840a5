-- The symbol of GS1 elements.
use Rattle.std.specs.Prelude.{◌≡◌, ◌⊎◌, ℕ, List, None, Some}
use Rattle.qrcode_types.specs.declared.types.EcLevel.{EcLevel}
use Rattle.qrcode_gs1.specs.Elements.{Item, element_string, read_elements}
use Rattle.qrcode_gs1.specs.Refusals.{refusal_from}
use Rattle.qrcode_gs1.specs.declared.errors.Gs1Error.TheVariants.{OutOfMemory}
use Rattle.qrcode.specs.Code.{Code}
use Rattle.qrcode_gs1.specs.symbol.Symbols.{IsMarkedSymbol, IsMarkedRefused}
use Rattle.qrcode_gs1.specs.declared.symbol.Fnc1.TheVariants.{First}
use Rattle.qrcode_gs1.specs.declared.symbol.errors.SymbolError.{SymbolError}
use Rattle.qrcode_gs1.specs.declared.symbol.errors.SymbolError.TheVariants.{Elements, Symbol}

-- no element is wrong, and the symbol is that of their element string after FNC1 in first position; reading the string
-- gives the elements
pub record IsGs1Symbol (from : ℕ) (l : EcLevel) (items : List Item) (code : Code) : Type 0 where
  pub accepted : refusal_from 0 items ≡ None
  pub symbol : IsMarkedSymbol from First l (element_string items) code
  pub elements : read_elements (element_string items) ≡ items

-- why there is no symbol: the first wrong element, or no Normal version from this one on holds the element string; or
-- memory ran out
abbrev pub IsGs1Refused : ℕ → EcLevel → List Item → SymbolError → Type 0
IsGs1Refused from l items (Elements e) = (refusal_from 0 items ≡ Some e) ⊎ (e ≡ OutOfMemory)
IsGs1Refused from l items (Symbol e) = (refusal_from 0 items ≡ None) × IsMarkedRefused from First l (element_string items) e
