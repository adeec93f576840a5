use Rattle.std.proofs.Common.{◌≡◌, ◌+◌, ◌/◌, ◌%◌, ◌≤◌, ℕ, false, vec_len}
use Rattle.qrcode_types.specs.Versions.{side}
use Rattle.qrcode_damage.specs.Damage.{is_pattern_place}
use Rattle.qrcode_damage.specs.Errors.{is_set}
use Rattle.qrcode_damage.specs.Flips.{count_wrong}
use Rattle.qrcode_damage.proofs.Ahead.{ahead_of}
use Rattle.qrcode_damage.proofs.patterns.wrong_patterns.Given as goal

abbrev pub invariant-loop-i : goal.invariant-loop-i
invariant-loop-i l = record {
  long : vec_len l.bytes ≡ l.i;
  counted : count_wrong l.bytes.items + l.left ≡ l.fn.count;
  ahead : l.ahead ≡ ahead_of l.fn.version l.i;
  left : l.left ≤ l.ahead;
  others : (j : ℕ) → is_pattern_place l.fn.version (j % side l.fn.version) (j / side l.fn.version) ≡ false → is_set l.bytes.items j ≡ false;
}
