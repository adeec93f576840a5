use Rattle.std.proofs.Common.{◌≡◌, ◌+◌, ◌*◌, ◌/◌, ◌≤◌, ◌++◌, length}
use Rattle.qrcode_bits.specs.Written.{alphanumeric_bits}
use Rattle.qrcode_bits.proofs.bits.written.push_characters.Given as goal

abbrev pub invariant-loop-rest : goal.invariant-loop-rest
invariant-loop-rest l = record {
  bits : l.stream.bits ++ alphanumeric_bits l.rest ≡ l.initial.stream.bits ++ alphanumeric_bits l.text;
  room : (11 * length l.rest + 1) / 2 ≤ l.stream.room;
}

abbrev pub decreases-loop-rest : goal.decreases-loop-rest
decreases-loop-rest l = length l.rest
