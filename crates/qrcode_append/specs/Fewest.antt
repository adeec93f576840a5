-- The fewest symbols in a range of versions.
use Rattle.std.specs.Prelude.{◌≡◌, ◌⊎◌, ℕ, ◌≤◌, pos, List, length, IsTrue}
use Rattle.qrcode_types.specs.Versions.{has_level}
use Rattle.qrcode_types.specs.declared.types.Version.TheVariants.{Normal}
use Rattle.qrcode_types.specs.declared.types.EcLevel.{EcLevel}
use Rattle.qrcode_types.specs.declared.types.QrError.{QrError}
use Rattle.qrcode_types.specs.declared.types.QrError.TheVariants.{InvalidVersion, DataTooLong, OutOfMemory}
use Rattle.qrcode_bits.specs.declared.bits.manner.Manner.{Manner}
use Rattle.qrcode.specs.Code.{Code}
use Rattle.qrcode_append.specs.Symbols.{HoldSeveral, AreParted, AreSeveral}
use Rattle.qrcode_append.specs.declared.choice.Versions.{Versions}

abbrev pub IsAmong : Versions → ℕ → Type 0  -- Normal n is in the range
IsAmong vs n = (vs.least ≤ n) × (n ≤ vs.greatest)

-- the smallest version in the range in which `count` symbols hold the data
pub record IsLeastAmong (m : Manner) (vs : Versions) (l : EcLevel) (bytes : List ℕ) (count number : ℕ) : Type 0 where
  pub among : IsAmong vs number
  pub holds : HoldSeveral m (Normal (pos number)) l bytes count
  pub least : (n : ℕ) → IsAmong vs n → HoldSeveral m (Normal (pos n)) l bytes count → number ≤ n

-- as few symbols as any version in the range allows, of the smallest version that allows that number
pub record AreFewest (m : Manner) (vs : Versions) (l : EcLevel) (bytes : List ℕ) (codes : List Code) : Type 0 where
  pub number : ℕ
  pub least_version : IsLeastAmong m vs l bytes (length codes) number
  pub fewest : (n count : ℕ) → IsAmong vs n → HoldSeveral m (Normal (pos n)) l bytes count → length codes ≤ count
  pub symbols : AreSeveral m (Normal (pos number)) l bytes codes

-- `count` symbols of even parts, of the smallest version in the range in which that many hold the data
pub record AreCounted (m : Manner) (vs : Versions) (l : EcLevel) (bytes : List ℕ) (count : ℕ) (codes : List Code) : Type 0 where
  pub counted : length codes ≡ count
  pub number : ℕ
  pub least_version : IsLeastAmong m vs l bytes count number
  pub symbols : AreParted m (Normal (pos number)) l bytes codes

-- why the call fails: memory ran out; no version in the range exists; or 16 symbols hold the data in none of them
abbrev pub AreNotHeld : Manner → Versions → EcLevel → List ℕ → QrError → Type 0
AreNotHeld m vs l bytes e =
    (e ≡ OutOfMemory) ⊎ (((e ≡ InvalidVersion) × ((n : ℕ) → IsAmong vs n → IsTrue (has_level (Normal (pos n)) l) → ⊥))
    ⊎ ((e ≡ DataTooLong) × (((n : ℕ) × (IsAmong vs n × IsTrue (has_level (Normal (pos n)) l)))
    × ((n count : ℕ) → IsAmong vs n → ¬ HoldSeveral m (Normal (pos n)) l bytes count))))
