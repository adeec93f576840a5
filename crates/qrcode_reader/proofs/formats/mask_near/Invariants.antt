use Rattle.std.proofs.Common.{ℕ, ◌<◌}
use Rattle.qrcode_layout.specs.Masks.{nth_mask}
use Rattle.qrcode_reader.specs.Formats.{NamesFormat}
use Rattle.qrcode_reader.proofs.formats.mask_near.Given as goal

abbrev pub invariant-loop-number : goal.invariant-loop-number
invariant-loop-number l = (k : ℕ) → k < l.number → ¬ NamesFormat l.version l.first l.last l.ec_level (nth_mask l.version k)
