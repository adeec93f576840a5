use Rattle.std.proofs.Common.{ℕ, ◌<◌, pos}
use Rattle.qrcode_types.specs.declared.types.Version.TheVariants.{Normal}
use Rattle.qrcode_append.specs.Fewest.{IsAmong}
use Rattle.qrcode_append.specs.Symbols.{HoldSeveral}
use Rattle.qrcode_append.proofs.choice.least_number.Given as goal

abbrev pub invariant-loop-number : goal.invariant-loop-number
invariant-loop-number l = (n : ℕ) → IsAmong l.fn.versions n → n < l.number → ¬ HoldSeveral l.manner (Normal (pos n)) l.ec_level l.bytes l.count
