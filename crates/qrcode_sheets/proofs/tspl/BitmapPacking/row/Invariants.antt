use Rattle.std.proofs.Common.{◌≡◌, ◌-◌, ◌++◌, drop, map}
use Rattle.qrcode_sheets.proofs.tspl.BitmapPacking.row.Given as goal

abbrev pub invariant-loop-i : goal.invariant-loop-i
invariant-loop-i l = l.row.items ++ map (λ b. 255 - b) (drop l.i l.bytes.items) ≡ map (λ b. 255 - b) l.bytes.items
