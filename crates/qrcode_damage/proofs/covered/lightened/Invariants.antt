use Rattle.std.proofs.Common.{◌≡◌}
use Rattle.qrcode_damage.specs.Areas.{covers}
use Rattle.qrcode_damage.specs.Covered.{covered}
use Rattle.qrcode_damage.proofs.covered.lightened.Given as goal

abbrev pub invariant-loop-i : goal.invariant-loop-i
invariant-loop-i l = l.colors.items ≡ covered l.width (covers l.area) l.modules l.i
