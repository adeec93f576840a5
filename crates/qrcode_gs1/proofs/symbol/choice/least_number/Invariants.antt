use Rattle.std.proofs.Common.{ℕ, ◌<◌, ◌≤◌}
use Rattle.qrcode_gs1.specs.symbol.Symbols.{HoldsMarked}
use Rattle.qrcode_gs1.proofs.symbol.choice.least_number.Given as goal

abbrev pub invariant-loop-number : goal.invariant-loop-number
invariant-loop-number l = (other : ℕ) → l.from ≤ other → other < l.number → ¬ HoldsMarked l.position l.ec_level l.bytes other
