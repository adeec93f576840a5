use Rattle.std.proofs.Common.{◌≡◌, drop}
use Rattle.qrcode_bits.specs.StructuredAppend.{parity}
use Rattle.qrcode_append.proofs.division.parity_of.Given as goal

abbrev pub invariant-loop-i : goal.invariant-loop-i
invariant-loop-i l = l.all ≡ parity (drop l.i l.bytes)
