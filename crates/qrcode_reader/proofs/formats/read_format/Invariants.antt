use Rattle.std.proofs.Common.{ℕ, ◌<◌, get_or}
use Rattle.qrcode_types.specs.declared.types.EcLevel.TheVariants.{L}
use Rattle.qrcode_layout.specs.declared.masks.MaskPattern.{MaskPattern}
use Rattle.qrcode_reader.specs.Formats.{HasFormat}
use Rattle.qrcode_reader.proofs.formats.read_format.Given as goal

abbrev pub invariant-loop-ec_level : goal.invariant-loop-ec_level
invariant-loop-ec_level l = (k : ℕ) → k < l.ec_level-index → (mask : MaskPattern) → ¬ HasFormat l.version l.modules (get_or l.ec_level-items k L) mask
