use Rattle.std.proofs.Common.{◌≡◌, ℕ, ◌+◌, ◌/◌, ◌%◌, ◌<◌, ◌≤◌}
use Rattle.qrcode_scan.specs.Wholes.{finder_dark, marked}
use Rattle.qrcode_scan.proofs.wholes.has_finder.Given as goal

abbrev pub invariant-loop-i : goal.invariant-loop-i
invariant-loop-i l = record {
  left : l.left ≤ l.most;
  right : l.most ≡ 0 → (k : ℕ) → k < l.i → marked l.pixels l.grid (l.column + k % 7) (l.row + k / 7) ≡ finder_dark (k % 7) (k / 7);
}
