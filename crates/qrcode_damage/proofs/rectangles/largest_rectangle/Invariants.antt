use Rattle.std.proofs.Common.{ℕ, ◌-◌, ◌*◌, ◌<◌}
use Rattle.qrcode_damage.specs.Rectangles.{centred, only, Fits}
use Rattle.qrcode_damage.proofs.rectangles.largest_rectangle.Given as goal

abbrev pub invariant-loop-less : goal.invariant-loop-less
invariant-loop-less l = (k : ℕ) → k < l.less → ¬ Fits l.version l.ec_level l.wish (only (centred l.version l.wish (l.width - 2 * k)))
