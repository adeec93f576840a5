use Rattle.qrcode_scan.proofs.HalfBlocks.{row_on}
use Rattle.qrcode_scan.proofs.halves.push_row.Goals as goal

pub loop-x-preserved : goal.loop-x-preserved
loop-x-preserved c = row_on _ _ _ c.args.row.now c.loop-x.x _ c.in_ok-push.ensures.items c.loop-x.invariant c.mark_of.ensures
