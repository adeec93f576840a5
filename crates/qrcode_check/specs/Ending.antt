-- Terminator and padding after the segments.
use Rattle.std.specs.Prelude.{◌≡◌, ℕ, ◌+◌, ◌-◌, ◌*◌, ◌/◌, min, Bool, List, length, count_by, take, drop}
use Rattle.qrcode_types.specs.Bits.{bit_distance}
use Rattle.qrcode_types.specs.declared.types.Version.{Version}
use Rattle.qrcode_types.specs.Versions.{terminator_length}
use Rattle.qrcode_bits.specs.Written.{padding}
use Rattle.qrcode_check.specs.declared.ending.Ending.{Ending}

-- how many zeros follow the used bits: the terminator, and more up to a whole byte, as far as there is room
abbrev pub zeros : Version → ℕ → ℕ → ℕ
zeros v used room = min (8 * ((min (used + terminator_length v) room + 7) / 8)) room - used

-- how many bits are wrong after the used ones: of the zeros those that are ones, and of the padding those that differ
-- from what is due
pub record IsEnding (v : Version) (used : ℕ) (bits : List Bool) (e : Ending) : Type 0 where
  pub terminator : e.terminator ≡ count_by (λ b. b) (take (zeros v used (length bits)) (drop used bits))
  pub padding : e.padding ≡ bit_distance (drop (zeros v used (length bits)) (drop used bits)) (padding (length bits - used - zeros v used (length bits)))
