use Rattle.std.proofs.Common.{ℕ, ◌<◌, pos}
use Rattle.qrcode_types.specs.declared.types.Version.TheVariants.{Normal}
use Rattle.qrcode_append.specs.Fewest.{IsAmong}
use Rattle.qrcode_append.specs.Symbols.{HoldSeveral}
use Rattle.qrcode_append.proofs.choice.encode_among.Given as goal

abbrev pub invariant-loop-count : goal.invariant-loop-count
invariant-loop-count l = (k n : ℕ) → k < l.count → IsAmong l.versions n → ¬ HoldSeveral l.manner (Normal (pos n)) l.ec_level l.bytes k
