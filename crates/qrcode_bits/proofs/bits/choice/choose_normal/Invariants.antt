use Rattle.std.proofs.Common.{◌+◌, ◌-◌, ◌≤◌}
use Rattle.qrcode_bits.specs.Manners.{NoneHolds}
use Rattle.qrcode_bits.proofs.bits.choice.choose_normal.Given as goal

abbrev pub invariant-loop-next : goal.invariant-loop-next
invariant-loop-next l = record {
  at_least : l.fn.first ≤ l.next;
  at_most : l.next ≤ 41;
  none : NoneHolds l.fn.wanted.manner l.fn.wanted.ec_level l.bytes (4 + l.fn.first) (4 + l.next);
}

abbrev pub decreases-loop-next : goal.decreases-loop-next
decreases-loop-next l = 41 - l.next
