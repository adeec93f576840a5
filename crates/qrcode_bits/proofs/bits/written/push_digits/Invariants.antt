use Rattle.std.proofs.Common.{◌≡◌, ◌+◌, ◌*◌, ◌/◌, ◌≤◌, ◌++◌, IsTrue, length}
use Rattle.std.specs.List.{list_all}
use Rattle.qrcode_types.specs.Characters.{is_digit}
use Rattle.qrcode_bits.specs.Written.{numeric_bits}
use Rattle.qrcode_bits.proofs.bits.written.push_digits.Given as goal

abbrev pub invariant-loop-rest : goal.invariant-loop-rest
invariant-loop-rest l = record {
  digits : IsTrue (list_all is_digit l.rest);
  bits : l.stream.bits ++ numeric_bits l.rest ≡ l.initial.stream.bits ++ numeric_bits l.digits;
  room : (10 * length l.rest + 2) / 3 ≤ l.stream.room;
}

abbrev pub decreases-loop-rest : goal.decreases-loop-rest
decreases-loop-rest l = length l.rest
