use Rattle.std.proofs.Common.{◌≡◌, ℕ}
use Rattle.qrcode_render.specs.Grid.{is_reached}
use Rattle.qrcode_sheets.specs.Paths.{is_filled}
use Rattle.qrcode_sheets.proofs.runs.runs_of.Given as goal

abbrev pub invariant-loop-i : goal.invariant-loop-i
invariant-loop-i l = (column row : ℕ) → is_filled l.runs.items column row ≡ is_reached l.grid l.i column row
