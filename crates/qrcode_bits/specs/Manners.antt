-- How bytes are written (the Manner), and which versions hold them so.
use Rattle.std.specs.Prelude.{ℕ, ◌+◌, ◌<◌, ◌≤◌, not, nat_abs, Bool, true, false, List, [], ◌++◌, length, IsTrue}
use Rattle.qrcode_types.specs.Bits.{number_bits}
use Rattle.qrcode_types.specs.Versions.{is_micro, has_level, capacity}
use Rattle.qrcode_types.specs.declared.types.Version.{Version}
use Rattle.qrcode_types.specs.declared.types.Version.TheVariants.{Normal, Micro}
use Rattle.qrcode_types.specs.declared.types.EcLevel.{EcLevel}
use Rattle.qrcode_bits.specs.Segments.{total_cost}
use Rattle.qrcode_bits.specs.Cuts.{IsCutIn}
use Rattle.qrcode_bits.specs.ModeSets.{all_modes, text_modes}
use Rattle.qrcode_bits.specs.Written.{eci_bits}
use Rattle.qrcode_bits.specs.declared.optimize.mode_sets.Modes.{Modes}
use Rattle.qrcode_bits.specs.declared.optimize.Segment.{Segment}
use Rattle.qrcode_bits.specs.declared.bits.manner.Manner.{Manner}
use Rattle.qrcode_bits.specs.declared.bits.manner.Manner.TheVariants.{Bytes, Text, MarkedText}

abbrev pub modes_of : Manner → Modes  -- the modes that segments may have
modes_of Bytes = all_modes
modes_of Text = text_modes
modes_of MarkedText = text_modes

abbrev pub is_text : Manner → Bool  -- the manner writes text
is_text Bytes = false
is_text Text = true
is_text MarkedText = true

-- the front: the bits before the segments. For marked text the ECI designator 26 (UTF-8) with its mode indicator.
abbrev pub front : Manner → List Bool
front Bytes = []
front Text = []
front MarkedText = number_bits 4 7 ++ eci_bits 26

-- the version allows this front: Micro has no ECI
abbrev pub has_front : Version → Manner → Bool
has_front v Bytes = true
has_front v Text = true
has_front v MarkedText = not (is_micro v)

abbrev pub FitsAs : Manner → Version → List ℕ → ℕ → Type 0  -- the front and some cut take together at most `most` bits
FitsAs m v bytes most = (segments : List Segment) × (IsCutIn (modes_of m) v bytes segments × (length (front m) + total_cost v segments ≤ most))

-- the version has the level and allows the front, and its symbol has room for the front and some cut of the data
pub record HoldsAs (m : Manner) (v : Version) (l : EcLevel) (bytes : List ℕ) : Type 0 where
  pub exists : IsTrue (has_level v l)
  pub front_exists : IsTrue (has_front v m)
  pub room : FitsAs m v bytes (capacity v l)

abbrev pub rank : Version → ℕ  -- the place of a version in the order Micro 1 to 4, Normal 1 to 40
rank (Micro v) = nat_abs v
rank (Normal v) = 4 + nat_abs v

-- no version of rank `from` up to, but not including, `to` holds the data
abbrev pub NoneHolds : Manner → EcLevel → List ℕ → ℕ → ℕ → Type 0
NoneHolds m l bytes from to = (v : Version) → from ≤ rank v → rank v < to → ¬ HoldsAs m v l bytes

-- the smallest version from `from` on that holds the data
pub record IsLeastFrom (m : Manner) (from : Version) (l : EcLevel) (bytes : List ℕ) (v : Version) : Type 0 where
  pub holds : HoldsAs m v l bytes
  pub at_least : rank from ≤ rank v
  pub least : (other : Version) → rank from ≤ rank other → HoldsAs m other l bytes → rank v ≤ rank other
