use Rattle.std.proofs.Common.{◌≡◌, ◌+◌, ◌≤◌, IsTrue, vec_len}
use Rattle.qrcode_damage.specs.Flips.{count_wrong, AreHigh}
use Rattle.qrcode_damage.proofs.flips.flips.Given as goal

abbrev pub invariant-loop-i : goal.invariant-loop-i
invariant-loop-i l = record {
  long : vec_len l.bytes ≡ l.i;
  counted : count_wrong l.bytes.items + l.left ≡ l.count;
  left : l.left + l.i ≤ l.length;
  high : IsTrue l.is_half → AreHigh l.bytes.items;
}
