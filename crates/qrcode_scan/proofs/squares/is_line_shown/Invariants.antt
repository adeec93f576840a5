use Rattle.std.proofs.Common.{◌≡◌, ℕ, ◌<◌, false, get_or}
use Rattle.qrcode_render.specs.Layout.{layout}
use Rattle.qrcode_render.specs.Picture.{is_dark_pixel}
use Rattle.qrcode_scan.proofs.squares.is_line_shown.Given as goal

abbrev pub invariant-loop-x : goal.invariant-loop-x
invariant-loop-x l =
    (k : ℕ) → k < l.x → get_or l.row k false ≡ is_dark_pixel (layout l.square.count l.square.zone l.square.scale l.square.scale) l.square.modules.items k l.y
