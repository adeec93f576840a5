use Rattle.std.proofs.Common.{◌+◌}
use Rattle.qrcode_scan.proofs.Tried.{push_keeps, push_patterned, sizes_more}
use Rattle.qrcode_scan.proofs.wholes.push_sizes.Goals as goal

pub loop-i-preserved : goal.loop-i-preserved
loop-i-preserved c =
    let b = c.args.pixels.now in
    let f = c.args.finder in
    let i = c.loop-i.i in
    let old = c.loop-i.grids.items in
    let new = c.push_new.new.grids.items in
    let grid = c.whole_grid.result in
    let is = c.whole_grid.ensures in
    let before = c.loop-i.invariant in
    let pushed = c.in_ok-push_new.ensures in
    record {
      patterned = push_patterned b old new grid before.patterned is.patterned pushed;
      kept = λ w tried. push_keeps w old new grid pushed (before.kept w tried);
      found = sizes_more b old new (f.x + f.scale) (f.y + f.scale) f.scale i grid pushed is.value is.none before.found;
    }
