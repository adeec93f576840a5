use Rattle.std.proofs.Common.{◌≡◌, ℕ, ◌<◌, get_or, length}
use Rattle.qrcode_ec.specs.Codes.{syndrome}
use Rattle.qrcode_reader.proofs.correct.residues.syndromes.Given as goal

abbrev pub invariant-loop-i : goal.invariant-loop-i
invariant-loop-i l = record {
  long : length l.values ≡ 72;
  below : (k : ℕ) → k < l.i → get_or l.values k 0 ≡ syndrome k l.block;
}
