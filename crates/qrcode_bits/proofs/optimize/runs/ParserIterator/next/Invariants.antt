use Rattle.std.proofs.Common.{◌≡◌, ◌+◌, ◌-◌, ◌<◌, length}
use Rattle.qrcode_bits.specs.Runs.{kinds, runs_from}
use Rattle.qrcode_bits.proofs.RunSteps.{runs_after}
use Rattle.qrcode_bits.proofs.optimize.runs.ParserIterator.next.Given as goal

abbrev pub invariant-loop-next : goal.invariant-loop-next
invariant-loop-next l = record {
  shorter : length l.rest < length l.self.rest.now;
  same : runs_from l.self.begin (kinds l.self.rest.now) ≡ runs_after l.kind l.self.begin (l.self.begin + (length l.self.rest.now - length l.rest)) (kinds l.rest);
}

abbrev pub decreases-loop-next : goal.decreases-loop-next
decreases-loop-next l = length l.rest
