use Rattle.std.proofs.Common.{◌≡◌, ◌+◌, ◌<◌}
use Rattle.qrcode_scan.specs.Wholes.{ArePatterned, BeginsAt, IsTriedIn, Whole}
use Rattle.qrcode_scan.proofs.Tried.{number_of}
use Rattle.qrcode_scan.proofs.wholes.push_sizes.Given as goal

abbrev pub invariant-loop-i : goal.invariant-loop-i
invariant-loop-i l = record {
  patterned : ArePatterned l.pixels l.grids.items;
  kept : (w : Whole) → IsTriedIn l.initial.grids.items w → IsTriedIn l.grids.items w;
  found : (w : Whole) → BeginsAt l.pixels w (l.finder.x + l.finder.scale) (l.finder.y + l.finder.scale) → w.scale ≡ l.finder.scale
      → number_of w < l.i → IsTriedIn l.grids.items w;
}
