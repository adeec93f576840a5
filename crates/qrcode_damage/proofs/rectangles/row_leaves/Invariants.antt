use Rattle.std.proofs.Common.{◌≡◌, ℕ, ◌<◌, false}
use Rattle.qrcode_damage.specs.Areas.{covers}
use Rattle.qrcode_damage.specs.Rectangles.{shows}
use Rattle.qrcode_damage.proofs.rectangles.row_leaves.Given as goal

abbrev pub invariant-loop-x : goal.invariant-loop-x
invariant-loop-x l = (k : ℕ) → k < l.x → shows l.kept l.version (covers l.area) k l.y ≡ false
