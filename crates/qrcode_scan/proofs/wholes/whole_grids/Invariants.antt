use Rattle.std.proofs.Common.{ℕ, ◌<◌}
use Rattle.qrcode_scan.specs.Wholes.{ArePatterned, BeginsAt, IsTriedIn, Whole}
use Rattle.qrcode_scan.proofs.wholes.whole_grids.Given as goal

abbrev pub invariant-loop-y : goal.invariant-loop-y
invariant-loop-y l = record {
  patterned : ArePatterned l.pixels l.grids.items;
  found : (w : Whole) (j k : ℕ) → j < l.y → BeginsAt l.pixels w k j → IsTriedIn l.grids.items w;
}
