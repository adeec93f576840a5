use Rattle.std.proofs.Common.{◌≡◌, ◌++◌, length}
use Rattle.qrcode_gs1.specs.symbol.Characters.{undoubled}
use Rattle.qrcode_scan.proofs.scanning.push_undoubled.Given as goal

abbrev pub invariant-loop-rest : goal.invariant-loop-rest
invariant-loop-rest l = l.bytes.items ++ undoubled l.rest ≡ l.fn.bytes.items ++ undoubled l.characters

abbrev pub decreases-loop-rest : goal.decreases-loop-rest
decreases-loop-rest l = length l.rest
