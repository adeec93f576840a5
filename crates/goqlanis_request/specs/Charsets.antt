-- The symbols of texts in the fewest bits over character sets.
use Rattle.std.specs.Prelude.{ℕ, List, chars, Result, IfErr, IsOkUnless}
use Rattle.qrcode_types.specs.declared.types.EcLevel.{EcLevel}
use Rattle.qrcode_types.specs.declared.types.QrError.{QrError}
use Rattle.qrcode_types.specs.declared.types.QrError.TheVariants.{OutOfMemory}
use Rattle.qrcode.specs.Code.{Code}
use Rattle.qrcode_charsets.specs.Given.{IsRefusedIn}
use Rattle.qrcode_charsets.specs.Shortest.{CanShow, NeedsText, IsShortestFrom, IsShortestBoosted, IsShortestIn}
use Rattle.qrcode_charsets.specs.declared.sets.Charset.{Charset}
use Rattle.goqlanis_request.specs.declared.request.Choice.{Choice}
use Rattle.goqlanis_request.specs.declared.request.Choice.TheVariants.{From, Boosted, At}

-- the symbol of the text in one of the sets, for the versions that the choice allows
abbrev pub IsShortestOf : Choice → List Charset → EcLevel → List ℕ → Charset → Code → Type 0
IsShortestOf (From from) sets l text c code = IsShortestFrom sets from l text c code
IsShortestOf (Boosted from) sets l text c code = IsShortestBoosted sets from l text c code
IsShortestOf (At version) sets l text c code = IsShortestIn sets version l text c code

-- when and why there is none, for a text of these bytes in UTF-8
abbrev pub IsShownOrRefused : Choice → List Charset → EcLevel → List ℕ → Result (Code × Charset) QrError → Type 0
IsShownOrRefused (From from) sets l utf8 result = NeedsText sets from l utf8 result
IsShownOrRefused (Boosted from) sets l utf8 result = NeedsText sets from l utf8 result
IsShownOrRefused (At version) sets l utf8 result = (CanShow sets version l (chars utf8) → IsOkUnless result OutOfMemory) × IfErr result (IsRefusedIn sets version l utf8)
