-- The list of bits that the automatic choice of a version returns.
use Rattle.std.specs.Prelude.{IsUtf8, chars, ◌≡◌, ℕ, ◌<◌, ◌≤◌, List, ◌++◌, length, IsTrue}
use Rattle.qrcode_types.specs.Versions.{capacity, has_level, level_number}
use Rattle.qrcode_types.specs.declared.types.Version.{Version}
use Rattle.qrcode_types.specs.declared.types.EcLevel.{EcLevel}
use Rattle.qrcode_bits.specs.BitList.{BitList}
use Rattle.qrcode_bits.specs.Cuts.{IsCut, IsLeastCut, IsLeastCutIn}
use Rattle.qrcode_bits.specs.Choice.{IsLeastHolding}
use Rattle.qrcode_bits.specs.Manners.{is_text, modes_of, front, HoldsAs, IsLeastFrom}
use Rattle.qrcode_bits.specs.Written.{written, pieces_of, terminated}
use Rattle.qrcode_bits.specs.Shown.{ShowsOnly}
use Rattle.qrcode_bits.specs.Spelling.{SpellsOnly}
use Rattle.qrcode_bits.specs.declared.optimize.Segment.{Segment}
use Rattle.qrcode_bits.specs.declared.bits.manner.Manner.{Manner}

-- the list is for version v, and its bits are the segments of a cut, terminated; they decode to the data and nothing else
pub record IsTerminated (v : Version) (l : EcLevel) (bytes : List ℕ) (segments : List Segment) (list : BitList) : Type 0 where
  pub version : list.version ≡ v
  pub level : IsTrue (has_level v l)
  pub cut : IsCut v bytes segments
  pub bits : list.bits ≡ terminated v l (written v (pieces_of bytes segments))
  pub full : length list.bits ≡ capacity v l
  pub spelled : SpellsOnly v list.bits bytes

-- the list is for the smallest Normal version that holds the data, and has the data in a least cut
pub record IsChosenList (l : EcLevel) (bytes : List ℕ) (list : BitList) : Type 0 where
  pub least_version : IsLeastHolding l bytes list.version
  pub segments : List Segment
  pub least : IsLeastCut list.version bytes segments
  pub terminated : IsTerminated list.version l bytes segments list

-- The version holds the data, and the bits are the manner's front and a least cut, terminated. A reader shows exactly the
-- characters of a text.
pub record IsListAs (m : Manner) (l : EcLevel) (bytes : List ℕ) (list : BitList) : Type 0 where
  pub holds : HoldsAs m list.version l bytes
  pub segments : List Segment
  pub least : IsLeastCutIn (modes_of m) list.version bytes segments
  pub bits : list.bits ≡ terminated list.version l (front m ++ written list.version (pieces_of bytes segments))
  pub full : length list.bits ≡ capacity list.version l
  pub shown : IsTrue (is_text m) → IsUtf8 bytes → ShowsOnly list.version list.bits (chars bytes)

-- such a list for the smallest version from `from` on that holds the data
pub record IsListFrom (m : Manner) (from : Version) (l : EcLevel) (bytes : List ℕ) (list : BitList) : Type 0 where
  pub least_version : IsLeastFrom m from l bytes list.version
  pub written : IsListAs m l bytes list

-- such a list at the highest level, from l on, at which the version that is chosen for l holds the data
pub record IsBoostedList (m : Manner) (from : Version) (l : EcLevel) (bytes : List ℕ) (highest : EcLevel) (list : BitList) : Type 0 where
  pub least_version : IsLeastFrom m from l bytes list.version
  pub written : IsListAs m highest bytes list
  pub at_least : level_number l ≤ level_number highest
  pub highest_level : (other : EcLevel) → level_number highest < level_number other → ¬ HoldsAs m list.version other bytes
