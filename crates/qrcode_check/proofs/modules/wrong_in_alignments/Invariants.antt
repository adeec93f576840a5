use Rattle.std.proofs.Common.{◌≡◌, ◌≤◌, ◌*◌, take}
use Rattle.std.specs.List.{flat_map, sum_by}
use Rattle.qrcode_layout.specs.Figures.{alignment_row, centres}
use Rattle.qrcode_reader.specs.Figures.{wrong_in}
use Rattle.qrcode_check.proofs.modules.wrong_in_alignments.Given as goal

abbrev pub invariant-loop-b : goal.invariant-loop-b
invariant-loop-b l = record {
  value : l.count ≡ sum_by (wrong_in l.version l.modules) (flat_map (alignment_row l.version) (take l.b-index (centres l.version)));
  at_most : l.count ≤ 3132900 * l.b-index;
}
