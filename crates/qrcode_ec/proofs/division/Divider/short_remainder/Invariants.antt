use Rattle.std.proofs.Common.{take}
use Rattle.qrcode_ec.specs.Dividing.{IsRegister}
use Rattle.qrcode_ec.proofs.division.Divider.short_remainder.Given as goal

abbrev pub invariant-loop-byte : goal.invariant-loop-byte
invariant-loop-byte l = IsRegister l.self.degree 32 (take l.byte-index l.bytes) l.register
