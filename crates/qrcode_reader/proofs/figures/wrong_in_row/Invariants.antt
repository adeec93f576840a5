use Rattle.std.proofs.Common.{◌≡◌, ◌≤◌}
use Rattle.qrcode_penalty.specs.Penalty.{sum_below}
use Rattle.qrcode_reader.specs.Figures.{wrong_at}
use Rattle.qrcode_reader.proofs.figures.wrong_in_row.Given as goal

abbrev pub invariant-loop-column : goal.invariant-loop-column
invariant-loop-column l = record { value : l.count ≡ sum_below l.column (wrong_at l.version l.modules l.figure l.row); at_most : l.count ≤ l.column }
