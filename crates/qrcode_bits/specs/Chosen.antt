-- The result of the search for a version.
use Rattle.std.specs.Prelude.{◌≡◌, ℕ, ◌+◌, ◌≤◌, List, length, IsTrue}
use Rattle.qrcode_types.specs.Versions.{has_level, capacity}
use Rattle.qrcode_types.specs.declared.types.Version.{Version}
use Rattle.qrcode_types.specs.declared.types.EcLevel.{EcLevel}
use Rattle.qrcode_bits.specs.Segments.{total_cost}
use Rattle.qrcode_bits.specs.Cuts.{IsLeastCutIn}
use Rattle.qrcode_bits.specs.Manners.{modes_of, front, has_front, rank, NoneHolds}
use Rattle.qrcode_bits.specs.declared.bits.manner.Manner.{Manner}
use Rattle.qrcode_bits.specs.declared.bits.choice.Chosen.{Chosen}

-- a shortest division of the data in a version, and the bits that it takes together with the manner's front
pub record IsMeasured (m : Manner) (v : Version) (bytes : List ℕ) (chosen : Chosen) : Type 0 where
  pub version : chosen.version ≡ v
  pub least : IsLeastCutIn (modes_of m) v bytes chosen.segments.items
  pub used : chosen.used ≡ length (front m) + total_cost v chosen.segments.items

-- the version holds the data in these segments
pub record IsHeldBy (m : Manner) (l : EcLevel) (bytes : List ℕ) (chosen : Chosen) : Type 0 where
  pub exists : IsTrue (has_level chosen.version l)
  pub front_exists : IsTrue (has_front chosen.version m)
  pub measured : IsMeasured m chosen.version bytes chosen
  pub room : chosen.used ≤ capacity chosen.version l

-- and no version between rank `from` and it holds the data
pub record IsFirstHeld (m : Manner) (from : ℕ) (l : EcLevel) (bytes : List ℕ) (chosen : Chosen) : Type 0 where
  pub held : IsHeldBy m l bytes chosen
  pub at_least : from ≤ rank chosen.version
  pub none_below : NoneHolds m l bytes from (rank chosen.version)
