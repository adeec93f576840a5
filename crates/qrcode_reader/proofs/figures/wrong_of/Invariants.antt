use Rattle.std.proofs.Common.{◌≡◌, ◌≤◌, ◌*◌, take}
use Rattle.std.specs.List.{sum_by}
use Rattle.qrcode_reader.specs.Figures.{wrong_in}
use Rattle.qrcode_reader.proofs.figures.wrong_of.Given as goal

abbrev pub invariant-loop-figure : goal.invariant-loop-figure
invariant-loop-figure l = record { value : l.count ≡ sum_by (wrong_in l.version l.modules) (take l.figure-index l.figures); at_most : l.count ≤ 31329 * l.figure-index }
