use Rattle.std.proofs.Common.{◌∙◌}
use Rattle.goqlanis_buffers.proofs.Taken.{written_more, taken_more}
use Rattle.goqlanis_buffers.proofs.segments.push_all.Goals as goal

pub loop-i-preserved : goal.loop-i-preserved
loop-i-preserved c =
    let now = c.loop-i.invariant in
    let ok = c.in_ok-push.ensures in
    let v = c.args.bits.now.version in
    let u = c.loop-i.bits.version in
    let segments = c.args.segments.now in
    let i = c.loop-i.i in (
      ok.version ∙ now.0,
      (
        written_more v u segments i _ c.loop-i.bits.bits c.push.new.bits.bits c.loop-i-test.true now.0 now.1.0 ok.appends,
        taken_more v u segments i _ c.loop-i.bits.bits now.0 now.1.0 now.1.1 ok.taken,
      ),
    )
