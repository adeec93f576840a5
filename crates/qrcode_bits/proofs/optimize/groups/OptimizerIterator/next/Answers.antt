use Rattle.std.proofs.Common.{arith, sym}
use Rattle.qrcode_bits.proofs.GroupCalls.{pair-chain, step-apart, step-end, joined-next, along-next, along-rest, joint-none, step-goes}
use Rattle.qrcode_bits.proofs.optimize.groups.OptimizerIterator.next.Goals as goal

pub try_join-requires-clause-joinable : goal.try_join-requires-clause-joinable
try_join-requires-clause-joinable g c = pair-chain g.I.Iterator.next_gives _ _ c.loop-segment.last c.in-Some.segment c.loop-segment.invariant.chain c.in-Some.ensures.steps

pub loop-segment-preserved : goal.loop-segment-preserved
loop-segment-preserved g c =
    let inv = c.loop-segment.invariant in
    let on = c.in-Some.ensures.goes.on inv.ends in
    let st = c.in-Some.ensures.steps in record {
      valid = inv.valid;
      can = on.0;
      ends = on.1;
      chain = along-next g.I.Iterator.next_gives c.loop-segment.self.version _ _ _ _ _ inv.chain st c.in-Some-try_join.ensures;
      fewer = omega (arith, on.2, inv.fewer);
      version = inv.version;
      joined = joined-next g.I.Iterator.next_gives _ c.loop-segment.self.version _ _ _ _ _ _ _ inv.version inv.joined st c.in-Some-try_join.ensures;
    }

pub returns-in-None-clause-steps : goal.returns-in-None-clause-steps
returns-in-None-clause-steps g c =
    let inv = c.loop-segment.invariant in
    step-apart g.I.Iterator.next_gives c.args.self.now _ _ _ _ _ c.loop-segment.self.version c.in_ok-last.was inv.version inv.joined c.in-Some.ensures.steps (joint-none _ _ _ (sym c.in-None.ensures))

pub returns-in-None-clause-goes : goal.returns-in-None-clause-goes
returns-in-None-clause-goes g c =
    let inv = c.loop-segment.invariant in
    let on = c.in-Some.ensures.goes.on inv.ends in
    let st = c.in-Some.ensures.steps in
    step-goes g.I.Iterator.next_gives g.I.Iterator.can_next g.I.Iterator.remaining c.args.self.now _ _ _ _ c.loop-segment.self.version inv.valid c.in_ok-last.was on.0 on.1 (along-rest g.I.Iterator.next_gives _ _ c.loop-segment.last c.in-Some.segment inv.chain st) (omega (arith, on.2, inv.fewer))

pub returns-clause-steps : goal.returns-clause-steps
returns-clause-steps g c =
    let inv = c.loop-segment.invariant in
    step-end g.I.Iterator.next_gives c.args.self.now _ _ _ _ c.loop-segment.self.version c.in_ok-last.was inv.version inv.joined c.in_default.ensures.steps
