use Rattle.std.proofs.Common.{take}
use Rattle.qrcode_gs1.specs.symbol.Cuts.{AreCharacters}
use Rattle.qrcode_gs1.proofs.symbol.characters.Characters.of.Given as goal

abbrev pub invariant-loop-segment : goal.invariant-loop-segment
invariant-loop-segment l = AreCharacters l.bytes (take l.segment-index l.segments) l.written.items l.ranges.items
