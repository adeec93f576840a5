use Rattle.std.proofs.Common.{◌≡◌, map}
use Rattle.std.specs.List.{range_with_len}
use Rattle.qrcode_damage.specs.Areas.{covers, touched}
use Rattle.qrcode_damage.proofs.reserve.touched.Given as goal

abbrev pub invariant-loop-b : goal.invariant-loop-b
invariant-loop-b l = l.counts.items ≡ map (touched l.version l.ec_level (covers l.area)) (range_with_len 0 l.b)
