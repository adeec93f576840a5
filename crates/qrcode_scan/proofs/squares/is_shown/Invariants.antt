use Rattle.std.proofs.Common.{ℕ, ◌<◌}
use Rattle.qrcode_render.specs.Layout.{layout}
use Rattle.qrcode_scan.specs.Squares.{IsRowOf}
use Rattle.qrcode_scan.proofs.squares.is_shown.Given as goal

abbrev pub invariant-loop-y : goal.invariant-loop-y
invariant-loop-y l = (k : ℕ) → k < l.y → IsRowOf l.marks (layout l.square.count l.square.zone l.square.scale l.square.scale) l.square.modules.items k
