use Rattle.std.proofs.Common.{◌≡◌, length}
use Rattle.qrcode_types.specs.Characters.{are_kanji}
use Rattle.qrcode_types.proofs.characters.are_kanji.Given as goal

abbrev pub invariant-loop-rest : goal.invariant-loop-rest
invariant-loop-rest l = are_kanji l.rest ≡ are_kanji l.bytes

abbrev pub decreases-loop-rest : goal.decreases-loop-rest
decreases-loop-rest l = length l.rest
