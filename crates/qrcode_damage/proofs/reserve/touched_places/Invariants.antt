use Rattle.std.proofs.Common.{◌≡◌, ◌≤◌, map}
use Rattle.std.specs.List.{range_with_len, count_by}
use Rattle.qrcode_reader.specs.Formats.{copy_place}
use Rattle.qrcode_damage.specs.Areas.{covers}
use Rattle.qrcode_damage.proofs.reserve.touched_places.Given as goal

abbrev pub invariant-loop-i : goal.invariant-loop-i
invariant-loop-i l = record {
  value : l.count ≡ count_by (λ p. covers l.area p.0 p.1) (map (copy_place l.copy l.version) (range_with_len 0 l.i));
  at_most : l.count ≤ l.i;
}
