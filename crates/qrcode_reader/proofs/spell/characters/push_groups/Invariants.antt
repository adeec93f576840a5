use Rattle.std.proofs.Common.{◌≡◌, ℕ, ◌++◌, List, length}
use Rattle.qrcode_reader.proofs.Groups.{TakesFront}
use Rattle.qrcode_reader.proofs.spell.characters.push_groups.Given as goal

abbrev pub invariant-loop-rest : goal.invariant-loop-rest
invariant-loop-rest l = (done : List ℕ) × ((l.bytes.items ≡ l.initial.bytes.items ++ done) × TakesFront l.mode l.bits done l.rest)

abbrev pub decreases-loop-rest : goal.decreases-loop-rest
decreases-loop-rest l = length l.rest
