use Rattle.std.proofs.Common.{List, Bool, length, string_bytes}
use Rattle.qrcode_reader.specs.spell.Texts.{IsBehindFront}
use Rattle.qrcode_reader.proofs.ShownBytes.{ShowsFront}
use Rattle.qrcode_reader.proofs.spell.texts.text_of.Given as goal

abbrev pub invariant-loop-rest : goal.invariant-loop-rest
invariant-loop-rest l = (behind : List Bool) × IsBehindFront l.version l.bits behind × ShowsFront l.version behind (string_bytes l.text) l.rest

abbrev pub decreases-loop-rest : goal.decreases-loop-rest
decreases-loop-rest l = length l.rest
