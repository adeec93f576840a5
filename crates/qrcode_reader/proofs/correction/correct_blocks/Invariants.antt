use Rattle.qrcode_reader.specs.Corrected.{AreCorrected}
use Rattle.qrcode_reader.proofs.correction.correct_blocks.Given as goal

abbrev pub invariant-loop-b : goal.invariant-loop-b
invariant-loop-b l = AreCorrected l.version l.ec_level l.words l.b l.corrected.data.items l.corrected.wrong.items
