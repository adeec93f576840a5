use Rattle.std.proofs.Common.{◌≡◌, ◌≤◌, length, true, ◌∙◌, arith, rules}
use Rattle.qrcode_bits.specs.Runs.{go_together}
use Rattle.qrcode_bits.proofs.RunSteps.{run-goes_on}
use Rattle.qrcode_bits.proofs.optimize.runs.ParserIterator.next.Goals as goal

pub loop-next-preserved : goal.loop-next-preserved
loop-next-preserved c =
    let on : go_together c.in_ok-kind.kind c.in-Some.next ≡ true = search rules in
    let le : length c.loop-next.rest.now ≤ length c.args.self.now.rest.now = omega (arith, c.loop-next.invariant.shorter) in
    record {
      shorter = omega (arith, c.loop-next.invariant.shorter, c.in-Some.ensures.1);
      same = c.loop-next.invariant.same ∙ run-goes_on _ _ c.args.self.now.begin c.args.self.now.rest.now c.loop-next.rest.now c.in-Some.after.now on le c.in-Some.ensures.0 c.in-Some.ensures.1;
    }
