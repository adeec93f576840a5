-- If no version from one on holds data, that one does not either.
use Rattle.std.proofs.Common.{◌≡◌, ℕ, List, ap, subst, arith, inl, inr}
use Rattle.qrcode_types.specs.declared.types.EcLevel.{EcLevel}
use Rattle.qrcode_types.specs.declared.types.QrError.{QrError}
use Rattle.qrcode_types.specs.declared.types.Version.{Version}
use Rattle.qrcode_gs1.specs.Elements.{Item, element_string}
use Rattle.qrcode_gs1.specs.symbol.Elements.{IsGs1Refused}
use Rattle.qrcode_gs1.specs.symbol.Symbols.{IsMarkedRefused}
use Rattle.qrcode_gs1.specs.declared.symbol.Fnc1.{Fnc1}
use Rattle.qrcode_gs1.specs.declared.symbol.Fnc1.TheVariants.{First, Second}
use Rattle.qrcode_gs1.specs.declared.symbol.errors.SymbolError.{SymbolError}
use Rattle.qrcode_gs1.specs.declared.symbol.errors.SymbolError.TheVariants.{Elements, Symbol}
use Rattle.goqlanis_request.specs.Elements.{number_of_normal, AreRefusedAlone, IsApplicationRefused, IsRefusedAlone}
use Rattle.goqlanis_request.specs.Segments.{first_of}
use Rattle.goqlanis_request.specs.declared.request.Choice.{Choice}
use Rattle.goqlanis_request.specs.declared.request.Choice.TheVariants.{From, Boosted, At}

-- if no version from v on holds the bytes, v does not
pub alone : (v : Version) (from : ℕ) (p : Fnc1) (l : EcLevel) (bytes : List ℕ) (e : QrError) → from ≡ number_of_normal v → IsMarkedRefused from p l bytes e → IsRefusedAlone v p l bytes e
alone v from p l bytes e is (inl memory) = inl memory
alone v from p l bytes e is (inr none) = inr (none.0, λ number same. none.1 number (omega (arith, is, ap number_of_normal same)))

-- the same for elements
pub elements_alone : (v : Version) (from : ℕ) (l : EcLevel) (items : List Item) (e : SymbolError) → from ≡ number_of_normal v → IsGs1Refused from l items e → AreRefusedAlone v l items e
elements_alone v from l items (Elements e) is refused = refused
elements_alone v from l items (Symbol e) is refused = (refused.0, alone v from First l (element_string items) e is refused.1)

-- why an application's data has no symbol, if no version from the first allowed one on holds it
pub application_refused : (choice : Choice) (from a : ℕ) (l : EcLevel) (bytes : List ℕ) (e : QrError) → from ≡ number_of_normal (first_of choice) → IsMarkedRefused from (Second a) l bytes e → IsApplicationRefused choice a l bytes e
application_refused (From v) from a l bytes e is refused = subst (λ n. IsMarkedRefused n (Second a) l bytes e) is refused
application_refused (Boosted v) from a l bytes e is refused = subst (λ n. IsMarkedRefused n (Second a) l bytes e) is refused
application_refused (At v) from a l bytes e is refused = alone v from (Second a) l bytes e is refused
