use Rattle.std.proofs.Common.{◌≡◌, ℕ, ◌+◌, ◌<◌, false}
use Rattle.qrcode_scan.specs.Squares.{mark_at}
use Rattle.qrcode_scan.proofs.wholes.light_run.Given as goal

abbrev pub invariant-loop-count : goal.invariant-loop-count
invariant-loop-count l = (k : ℕ) → k < l.count → mark_at l.pixels (l.x + k) l.y ≡ false
