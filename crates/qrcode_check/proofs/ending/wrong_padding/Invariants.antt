use Rattle.std.proofs.Common.{◌≡◌, ◌≤◌, ◌*◌, take, drop, length}
use Rattle.qrcode_types.specs.Bits.{bit_distance}
use Rattle.qrcode_bits.proofs.Paddings.{padding_bytes}
use Rattle.qrcode_check.proofs.ending.wrong_padding.Given as goal

abbrev pub invariant-loop-i : goal.invariant-loop-i
invariant-loop-i l = record {
  value : l.count ≡ bit_distance (take (8 * l.i) l.bits) (padding_bytes l.i);
  rest : l.rest ≡ drop (8 * l.i) l.bits;
  long : length (padding_bytes l.i) ≡ 8 * l.i;
  at_most : l.count ≤ 8 * l.i;
}
