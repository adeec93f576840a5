use Rattle.std.proofs.Common.{◌≡◌, ◌≢◌, ◌<◌, ℕ, get_or}
use Rattle.qrcode_types.specs.Blocks.{count_of}
use Rattle.qrcode_damage.specs.Flips.{AreHigh, codeword_place}
use Rattle.qrcode_damage.proofs.words.put_block.Given as goal

abbrev pub invariant-loop-i : goal.invariant-loop-i
invariant-loop-i l = record {
  written : (k : ℕ) → k < l.i → get_or l.words (codeword_place l.blocks l.b k) 0 ≡ get_or l.bytes k 0;
  others : (other k : ℕ) → other < count_of l.blocks → other ≢ l.b → get_or l.words (codeword_place l.blocks other k) 0 ≡ get_or l.initial.words (codeword_place l.blocks other k) 0;
  high : AreHigh l.initial.words → AreHigh l.bytes → AreHigh l.words;
}
