use Rattle.std.proofs.Common.{◌≡◌}
use Rattle.qrcode_render.specs.Bitmap.{with_dark_rect}
use Rattle.qrcode_render.proofs.cells.Cells.put_rect.Given as goal

abbrev pub invariant-loop-row : goal.invariant-loop-row
invariant-loop-row l = l.self ≡ with_dark_rect l.left l.top l.width l.row l.fn.self
