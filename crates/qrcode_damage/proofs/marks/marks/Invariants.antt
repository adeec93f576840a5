use Rattle.std.proofs.Common.{◌≡◌}
use Rattle.qrcode_damage.specs.Areas.{covers}
use Rattle.qrcode_damage.specs.Counting.{area_marks}
use Rattle.qrcode_damage.proofs.marks.marks.Given as goal

abbrev pub invariant-loop-t : goal.invariant-loop-t
invariant-loop-t l = l.found.items ≡ area_marks l.version (covers l.area) l.t
