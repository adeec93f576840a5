-- Which data a symbol holds, and the smallest version that does.
use Rattle.std.specs.Prelude.{◌≡◌, ◌⊎◌, ℕ, ◌<◌, ◌≤◌, pos, false, List, length, sum_by, Result, Err, IfErr, IsOkUnless, IsTrue}
use Rattle.qrcode_types.specs.Versions.{is_valid, has_level, capacity}
use Rattle.qrcode_types.specs.declared.types.Version.{Version}
use Rattle.qrcode_types.specs.declared.types.Version.TheVariants.{Normal}
use Rattle.qrcode_types.specs.declared.types.EcLevel.{EcLevel}
use Rattle.qrcode_types.specs.declared.types.QrError.{QrError}
use Rattle.qrcode_types.specs.declared.types.QrError.TheVariants.{InvalidVersion, DataTooLong, UnsupportedCharacterSet, OutOfMemory}
use Rattle.qrcode_bits.specs.Cuts.{IsCut, IsCutIn}
use Rattle.qrcode_bits.specs.Segments.{cost}
use Rattle.qrcode_bits.specs.Manners.{modes_of, has_front, HoldsAs, rank}
use Rattle.qrcode_bits.specs.Refusals.{data_limit}
use Rattle.qrcode_bits.specs.declared.optimize.Segment.{Segment}
use Rattle.qrcode_bits.specs.declared.bits.manner.Manner.{Manner}

pub record Holds (v : Version) (l : EcLevel) (bytes : List ℕ) : Type 0 where  -- the version has the level, and its symbol has room for some division of the data into segments
  pub exists : IsTrue (has_level v l)
  pub room : (segments : List Segment) × (IsCut v bytes segments × (sum_by (cost v) segments ≤ capacity v l))

pub record IsLeastHolding (l : EcLevel) (bytes : List ℕ) (v : Version) : Type 0 where  -- the smallest Normal version that holds the data
  pub number : ℕ
  pub is : v ≡ Normal (pos number)
  pub holds : Holds v l bytes
  pub least : (n : ℕ) → Holds (Normal (pos n)) l bytes → number ≤ n

abbrev pub IsRefused : EcLevel → List ℕ → QrError → Type 0  -- memory ran out, or no Normal version holds the data
IsRefused l bytes e = (e ≡ OutOfMemory) ⊎ ((e ≡ DataTooLong) × ((n : ℕ) → ¬ Holds (Normal (pos n)) l bytes))

-- why no version is chosen, if `from` exists: no version from it on holds the data (none does beyond the limit), or memory ran out
abbrev pub IsRefusedFrom : Manner → Version → EcLevel → List ℕ → QrError → Type 0
IsRefusedFrom m from l bytes e = (e ≡ OutOfMemory) ⊎ ((e ≡ DataTooLong) × ((v : Version) → rank from ≤ rank v → ¬ HoldsAs m v l bytes))

-- when and with which error a call fails that needs a version, from `from` on, that holds the data
pub record NeedsVersion {A : Type 0} (m : Manner) (from : Version) (l : EcLevel) (bytes : List ℕ) (result : Result A QrError) : Type 0 where
  pub no_version : is_valid from ≡ false → result ≡ Err InvalidVersion
  pub accepts : (v : Version) → IsTrue (is_valid from) → rank from ≤ rank v → HoldsAs m v l bytes → IsOkUnless result OutOfMemory
  pub causes : IsTrue (is_valid from) → IfErr result (IsRefusedFrom m from l bytes)
  pub too_long : IsTrue (is_valid from) → data_limit < length bytes → result ≡ Err DataTooLong

abbrev pub IfCause : Type 0 → Type 0 → Type 0 → Type 0  -- `this` if a cause applies, and `that` if it does not
IfCause Cause this that = (Cause × this) ⊎ ((¬ Cause) × that)

-- why data in a manner is rejected at a version and level: the first of these causes that applies; after the fourth, memory may run out instead
abbrev pub IsRefusedIn : Manner → Version → EcLevel → List ℕ → QrError → Type 0
IsRefusedIn m v l bytes e =
    IfCause (is_valid v ≡ false) (e ≡ InvalidVersion) (
    IfCause (data_limit < length bytes) (e ≡ DataTooLong) (
    IfCause (has_front v m ≡ false) (e ≡ UnsupportedCharacterSet) (
    IfCause ((segments : List Segment) → ¬ IsCutIn (modes_of m) v bytes segments) (e ≡ UnsupportedCharacterSet) (
    (e ≡ OutOfMemory) ⊎
    IfCause (has_level v l ≡ false) (e ≡ InvalidVersion) (
    (¬ HoldsAs m v l bytes) × (e ≡ DataTooLong))))))
