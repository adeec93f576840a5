use Rattle.std.proofs.Common.{◌≡◌, ◌+◌, ◌≤◌, drop}
use Rattle.std.specs.List.{count_by}
use Rattle.qrcode_types.specs.Characters.{is_digit}
use Rattle.qrcode_bits.proofs.digits.count_few.Given as goal

abbrev pub invariant-loop-byte : goal.invariant-loop-byte
invariant-loop-byte l = record {
  count : l.count + count_by is_digit (drop l.byte-index l.bytes) ≡ count_by is_digit l.bytes;
  at_most : l.count ≤ l.byte-index;
}
