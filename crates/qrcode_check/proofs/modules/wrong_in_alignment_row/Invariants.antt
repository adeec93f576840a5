use Rattle.std.proofs.Common.{◌≡◌, ◌≤◌, ◌*◌, map, take, not}
use Rattle.std.specs.List.{filter, sum_by}
use Rattle.qrcode_types.specs.Versions.{side}
use Rattle.qrcode_layout.specs.Figures.{alignment, centres, is_corner_centre}
use Rattle.qrcode_reader.specs.Figures.{wrong_in}
use Rattle.qrcode_check.proofs.modules.wrong_in_alignment_row.Given as goal

abbrev pub invariant-loop-a : goal.invariant-loop-a
invariant-loop-a l = record {
  value : l.count ≡ sum_by (wrong_in l.version l.modules) (map (λ a. alignment a l.b) (filter (λ a. not (is_corner_centre (side l.version) a l.b)) (take l.a-index (centres l.version))));
  at_most : l.count ≤ 31329 * l.a-index;
}
