use Rattle.std.proofs.Common.{take}
use Rattle.qrcode_ec.specs.Dividing.{IsRegister}
use Rattle.qrcode_ec.proofs.division.divided.Given as goal

abbrev pub invariant-loop-byte : goal.invariant-loop-byte
invariant-loop-byte l = IsRegister l.degree 72 (take l.byte-index l.bytes) l.register
