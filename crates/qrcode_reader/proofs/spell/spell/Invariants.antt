use Rattle.std.proofs.Common.{length}
use Rattle.qrcode_reader.proofs.Spelled.{SpellsFront}
use Rattle.qrcode_reader.proofs.spell.spell.Given as goal

abbrev pub invariant-loop-rest : goal.invariant-loop-rest
invariant-loop-rest l = SpellsFront l.version l.bits l.bytes.items l.rest

abbrev pub decreases-loop-rest : goal.decreases-loop-rest
decreases-loop-rest l = length l.rest
