use Rattle.std.proofs.Common.{◌≡◌, take}
use Rattle.qrcode_ec.specs.Codes.{syndrome}
use Rattle.qrcode_reader.proofs.correct.residues.syndrome.Given as goal

abbrev pub invariant-loop-byte : goal.invariant-loop-byte
invariant-loop-byte l = l.sum ≡ syndrome l.i (take l.byte-index l.block)
