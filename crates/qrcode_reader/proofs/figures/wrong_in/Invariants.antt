use Rattle.std.proofs.Common.{◌≡◌, ◌≤◌, ◌*◌}
use Rattle.qrcode_penalty.specs.Penalty.{sum_below}
use Rattle.qrcode_reader.specs.Figures.{wrong_in_row}
use Rattle.qrcode_reader.proofs.figures.wrong_in.Given as goal

abbrev pub invariant-loop-row : goal.invariant-loop-row
invariant-loop-row l = record { value : l.count ≡ sum_below l.row (wrong_in_row l.version l.modules l.figure); at_most : l.count ≤ 177 * l.row }
