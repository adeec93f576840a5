use Rattle.std.proofs.Common.{length}
use Rattle.qrcode_reader.proofs.Parted.{PartsFront}
use Rattle.qrcode_reader.proofs.spell.parts.pieces.Given as goal

abbrev pub invariant-loop-version : goal.invariant-loop-version
invariant-loop-version l = PartsFront l.version l.bits l.bytes.items l.parts.items l.rest

abbrev pub decreases-loop-version : goal.decreases-loop-version
decreases-loop-version l = length l.rest
