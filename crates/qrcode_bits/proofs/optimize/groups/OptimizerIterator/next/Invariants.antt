use Rattle.std.proofs.Common.{◌≡◌, ◌≤◌, ◌∷◌, IsTrue}
use Rattle.std.specs.Iterator.{IsFinite, HoldsAlong, size}
use Rattle.qrcode_types.specs.Versions.{is_valid}
use Rattle.qrcode_bits.specs.Groups.{IsJoinable}
use Rattle.qrcode_bits.proofs.GroupCalls.{Joined}
use Rattle.qrcode_bits.proofs.optimize.groups.OptimizerIterator.next.Given as goal

abbrev pub invariant-loop-segment : goal.invariant-loop-segment
invariant-loop-segment g l = record {
  valid : IsTrue (is_valid l.self.version);
  can : g.I.Iterator.can_next l.self.segments;
  ends : IsFinite (g.I.Iterator.remaining l.self.segments);
  chain : HoldsAlong g.I.Iterator.next_gives l.self.segments (λ xs. IsJoinable (l.last ∷ xs));
  fewer : size (g.I.Iterator.remaining l.self.segments) ≤ size (g.I.Iterator.remaining l.initial.self.segments);
  version : l.self.version ≡ l.initial.self.version;
  joined : Joined g.I.Iterator.next_gives l.initial.self.version l.initial.last l.initial.self.segments l.last l.self.segments;
}

abbrev pub decreases-loop-segment : goal.decreases-loop-segment
decreases-loop-segment g l = size (g.I.Iterator.remaining l.self.segments)
