use Rattle.std.proofs.Common.{◌≡◌, drop}
use Rattle.qrcode_bits.specs.LeastBits.{costs_of}
use Rattle.qrcode_bits.proofs.optimize.least.counted_bits.Given as goal

abbrev pub invariant-loop-i : goal.invariant-loop-i
invariant-loop-i l = record { rest : l.costs ≡ costs_of l.fn.headers (drop l.i l.bytes) }
