-- Symbols with FNC1: GS1 elements, and data in an application's own format.
use Rattle.std.specs.Prelude.{◌≡◌, ◌⊎◌, ℕ, None, Some, pos, negsuc, List}
use Rattle.qrcode_types.specs.declared.types.EcLevel.{EcLevel}
use Rattle.qrcode_types.specs.declared.types.QrError.{QrError}
use Rattle.qrcode_types.specs.declared.types.QrError.TheVariants.{DataTooLong, OutOfMemory}
use Rattle.qrcode_types.specs.declared.types.Version.{Version}
use Rattle.qrcode_types.specs.declared.types.Version.TheVariants.{Normal, Micro}
use Rattle.qrcode.specs.Code.{Code}
use Rattle.qrcode_gs1.specs.Elements.{Item, element_string}
use Rattle.qrcode_gs1.specs.Refusals.{refusal_from}
use Rattle.qrcode_gs1.specs.declared.errors.Gs1Error.TheVariants as gs1
use Rattle.qrcode_gs1.specs.symbol.Elements.{IsGs1Symbol, IsGs1Refused}
use Rattle.qrcode_gs1.specs.symbol.Symbols.{HoldsMarked, IsMarkedSymbol, IsMarkedRefused}
use Rattle.qrcode_gs1.specs.declared.symbol.Fnc1.{Fnc1}
use Rattle.qrcode_gs1.specs.declared.symbol.Fnc1.TheVariants.{First, Second}
use Rattle.qrcode_gs1.specs.declared.symbol.errors.SymbolError.{SymbolError}
use Rattle.qrcode_gs1.specs.declared.symbol.errors.SymbolError.TheVariants.{Elements, Symbol}
use Rattle.goqlanis_request.specs.Segments.{first_of}
use Rattle.goqlanis_request.specs.declared.request.Choice.{Choice}
use Rattle.goqlanis_request.specs.declared.request.Choice.TheVariants.{At}

abbrev pub number_of_normal : Version → ℕ  -- the number of a Normal version; 0 for Micro, which has no FNC1
number_of_normal (Normal (pos n)) = n
number_of_normal (Normal (negsuc n)) = 0
number_of_normal (Micro n) = 0

-- code is the symbol of the elements at the level, in the smallest allowed version that holds them
abbrev pub IsElementsIn : Choice → EcLevel → List Item → Code → Type 0
IsElementsIn (At v) l items code = IsGs1Symbol (number_of_normal v) l items code × (code.version ≡ v)
IsElementsIn choice l items code = IsGs1Symbol (number_of_normal (first_of choice)) l items code

-- code is the symbol of the application's data at the level, in the smallest allowed version that holds it
abbrev pub IsApplicationIn : Choice → ℕ → EcLevel → List ℕ → Code → Type 0
IsApplicationIn (At v) application l bytes code = IsMarkedSymbol (number_of_normal v) (Second application) l bytes code × (code.version ≡ v)
IsApplicationIn choice application l bytes code = IsMarkedSymbol (number_of_normal (first_of choice)) (Second application) l bytes code

-- why data with FNC1 has no symbol in this one version: memory runs out, or the version does not hold it
abbrev pub IsRefusedAlone : Version → Fnc1 → EcLevel → List ℕ → QrError → Type 0
IsRefusedAlone v p l bytes e = (e ≡ OutOfMemory) ⊎ ((e ≡ DataTooLong) × ((number : ℕ) → Normal (pos number) ≡ v → ¬ HoldsMarked p l bytes number))

-- why an application's data has no symbol: memory runs out, or no allowed version holds it
abbrev pub IsApplicationRefused : Choice → ℕ → EcLevel → List ℕ → QrError → Type 0
IsApplicationRefused (At v) application l bytes e = IsRefusedAlone v (Second application) l bytes e
IsApplicationRefused choice application l bytes e = IsMarkedRefused (number_of_normal (first_of choice)) (Second application) l bytes e

-- why elements have no symbol in this one version: the first element that is not valid; or the version does not hold their element string; or memory runs out
abbrev pub AreRefusedAlone : Version → EcLevel → List Item → SymbolError → Type 0
AreRefusedAlone v l items (Elements e) = (refusal_from 0 items ≡ Some e) ⊎ (e ≡ gs1.OutOfMemory)
AreRefusedAlone v l items (Symbol e) = (refusal_from 0 items ≡ None) × IsRefusedAlone v First l (element_string items) e

-- why elements have no symbol: as IsGs1Refused says, or as AreRefusedAlone says if only one version is allowed
abbrev pub IsElementsRefused : Choice → EcLevel → List Item → SymbolError → Type 0
IsElementsRefused (At v) l items e = AreRefusedAlone v l items e
IsElementsRefused choice l items e = IsGs1Refused (number_of_normal (first_of choice)) l items e
