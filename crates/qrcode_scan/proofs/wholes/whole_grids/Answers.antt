use Rattle.std.proofs.Common.{arith}
use Rattle.qrcode_scan.proofs.Tried.{all_found, rows_more}
use Rattle.qrcode_scan.proofs.wholes.whole_grids.Goals as goal

pub loop-y-preserved : goal.loop-y-preserved
loop-y-preserved c =
    let is = c.in_ok-push_row.ensures in
    record {
      patterned = is.patterned;
      found = rows_more c.args.pixels.now c.loop-y.grids.items c.push_row.new.grids.items c.loop-y.y is.kept is.found c.loop-y.invariant.found;
    }

pub returns : goal.returns
returns c = all_found c.args.pixels.now c.loop-y.grids.items c.loop-y.invariant.patterned (λ w j k low at. c.loop-y.invariant.found w j k (omega (arith, low)) at)
