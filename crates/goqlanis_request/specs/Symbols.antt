-- Which symbol a request asks for, and why there is none.
use Rattle.std.specs.Prelude.{◌≡◌, ◌⊎◌, ℕ, false, List}
use Rattle.qrcode_types.specs.Versions.{is_valid}
use Rattle.qrcode_types.specs.declared.types.EcLevel.{EcLevel}
use Rattle.qrcode_types.specs.declared.types.QrError.{QrError}
use Rattle.qrcode_types.specs.declared.types.QrError.TheVariants.{InvalidVersion, OutOfMemory}
use Rattle.qrcode_bits.specs.Choice.{IsRefusedFrom, IsRefusedIn, IfCause}
use Rattle.qrcode_bits.specs.Manners.{IsLeastFrom}
use Rattle.qrcode_bits.specs.declared.bits.manner.Manner.{Manner}
use Rattle.qrcode.specs.Code.{Code}
use Rattle.qrcode.specs.Texts.{IsSymbolAs, IsBoostedAs}
use Rattle.goqlanis_request.specs.declared.request.Choice.{Choice}
use Rattle.goqlanis_request.specs.declared.request.Choice.TheVariants.{From, Boosted, At}

-- code is the symbol of the data, written in this manner: From, in the smallest version from one on that holds it; Boosted, in that version, at the
-- highest level at which it still holds the data; At, in the given version
abbrev pub IsSymbolIn : Choice → Manner → EcLevel → List ℕ → Code → Type 0
IsSymbolIn (From from) m l bytes code = IsLeastFrom m from l bytes code.version × ((code.level ≡ l) × IsSymbolAs m code.version l bytes code.modules)
IsSymbolIn (Boosted from) m l bytes code = IsBoostedAs m from l bytes code
IsSymbolIn (At version) m l bytes code = (code.version ≡ version) × ((code.level ≡ l) × IsSymbolAs m version l bytes code.modules)

-- why data has no symbol: there is no such version; or no allowed version holds it, for At by the causes of IsRefusedIn; or memory runs out
abbrev pub IsRefusalFrom : Choice → Manner → EcLevel → List ℕ → QrError → Type 0
IsRefusalFrom (From from) m l bytes e = IfCause (is_valid from ≡ false) (e ≡ InvalidVersion) (IsRefusedFrom m from l bytes e)
IsRefusalFrom (Boosted from) m l bytes e = IfCause (is_valid from ≡ false) (e ≡ InvalidVersion) (IsRefusedFrom m from l bytes e)
IsRefusalFrom (At version) m l bytes e = IsRefusedIn m version l bytes e

-- why there is no symbol: memory runs out, or one of these causes
abbrev pub IsRefusedFor : Choice → Manner → EcLevel → List ℕ → QrError → Type 0
IsRefusedFor choice m l bytes e = (e ≡ OutOfMemory) ⊎ IsRefusalFrom choice m l bytes e
