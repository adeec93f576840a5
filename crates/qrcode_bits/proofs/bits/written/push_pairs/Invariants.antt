use Rattle.std.proofs.Common.{◌≡◌, ◌*◌, ◌/◌, ◌≤◌, ◌++◌, IsTrue, length}
use Rattle.qrcode_types.specs.Characters.{are_kanji}
use Rattle.qrcode_bits.specs.Written.{kanji_bits}
use Rattle.qrcode_bits.proofs.bits.written.push_pairs.Given as goal

abbrev pub invariant-loop-rest : goal.invariant-loop-rest
invariant-loop-rest l = record {
  pairs : IsTrue (are_kanji l.rest);
  bits : l.stream.bits ++ kanji_bits l.rest ≡ l.initial.stream.bits ++ kanji_bits l.pairs;
  room : 13 * (length l.rest / 2) ≤ l.stream.room;
}

abbrev pub decreases-loop-rest : goal.decreases-loop-rest
decreases-loop-rest l = length l.rest
