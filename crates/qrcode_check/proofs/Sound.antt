-- What holds for a square that is read as bits.
use Rattle.std.proofs.Common.{◌≡◌, ◌≤◌, ◌*◌, Bool, List, length, ap, subst, arith, length-take, IsTrue}
use Rattle.qrcode_types.specs.Bits.{bits_of}
use Rattle.qrcode_types.specs.Versions.{has_level, capacity, side}
use Rattle.qrcode_types.specs.declared.types.Color.{Color}
use Rattle.qrcode_types.specs.declared.types.Version.{Version}
use Rattle.qrcode_types.specs.declared.types.EcLevel.{EcLevel}
use Rattle.qrcode_ec.specs.Blocks.{data_bits, data_bytes}
use Rattle.qrcode_layout.specs.Masks.{exists_in}
use Rattle.qrcode_layout.specs.declared.masks.MaskPattern.{MaskPattern}
use Rattle.qrcode_bits.proofs.Shortness.{capacity_at_most}
use Rattle.qrcode_reader.specs.Readings.{IsBitReading}
use Rattle.qrcode_reader.specs.declared.correction.WrongCodeword.{WrongCodeword}

module _ (s : List Color) (v : Version) (l : EcLevel) (k : MaskPattern) (bits : List Bool) (wrong : List WrongCodeword) (r : IsBitReading s v l k bits wrong) where
  pub level_exists : IsTrue (has_level v l)
  level_exists = r.only.found.exists

  pub mask_exists : IsTrue (exists_in v k)
  mask_exists = subst (λ (m : MaskPattern). IsTrue (exists_in v m)) r.mask r.only.found.mask_exists

  pub square : length s ≡ side v * side v
  square = r.only.found.square

  pub short_bits : length bits ≤ 30000
  unfolding data_bits
  short_bits =
      let f = r.only.found in
      omega (arith, ap length f.holds, length-take (capacity v l) (bits_of (data_bytes v l f.corrected)), capacity_at_most v l)
