use Rattle.std.proofs.Common.{◌≡◌, ℕ, ◌<◌, false}
use Rattle.qrcode_types.specs.Versions.{side}
use Rattle.qrcode_damage.specs.Areas.{covers}
use Rattle.qrcode_damage.specs.Rectangles.{shows}
use Rattle.qrcode_damage.proofs.rectangles.leaves_patterns.Given as goal

abbrev pub invariant-loop-y : goal.invariant-loop-y
invariant-loop-y l = (x k : ℕ) → x < side l.version → k < l.y → shows l.kept l.version (covers l.area) x k ≡ false
