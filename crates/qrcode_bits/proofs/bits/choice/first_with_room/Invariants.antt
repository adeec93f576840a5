use Rattle.std.proofs.Common.{ℕ, ◌≤◌, ◌<◌, pos}
use Rattle.qrcode_types.specs.Versions.{capacity}
use Rattle.qrcode_types.specs.declared.types.Version.TheVariants.{Normal}
use Rattle.qrcode_bits.proofs.bits.choice.first_with_room.Given as goal

abbrev pub invariant-loop-number : goal.invariant-loop-number
invariant-loop-number l = record { none : (k : ℕ) → l.first ≤ k → k < l.number → capacity (Normal (pos k)) l.ec_level < l.used }
