use Rattle.std.proofs.Common.{ℕ, ◌<◌}
use Rattle.qrcode_scan.specs.Wholes.{ArePatterned, BeginsAt, IsTriedIn, Whole}
use Rattle.qrcode_scan.proofs.wholes.push_row.Given as goal

abbrev pub invariant-loop-x : goal.invariant-loop-x
invariant-loop-x l = record {
  patterned : ArePatterned l.pixels l.grids.items;
  kept : (w : Whole) → IsTriedIn l.initial.grids.items w → IsTriedIn l.grids.items w;
  found : (w : Whole) (k : ℕ) → k < l.x → BeginsAt l.pixels w k l.y → IsTriedIn l.grids.items w;
}
