use Rattle.std.proofs.Common.{◌≡◌, ℕ, ◌<◌, List, get_or, length, slice_index}
use Rattle.qrcode_ec.specs.Codes.{Corrects}
use Rattle.qrcode_reader.specs.correct.Errors.{IsLocator}
use Rattle.qrcode_reader.proofs.correct.errors.corrected.Given as goal

abbrev pub invariant-loop-i : goal.invariant-loop-i
invariant-loop-i l = record {
  long : length l.bytes ≡ 255;
  bytes : (k : ℕ) → get_or l.bytes k 0 < 256;
  below : (n : ℕ) (corrected : List ℕ) → IsLocator l.block (slice_index l.syndromes) n l.locator.degree l.locator.current → Corrects l.block n corrected
      → (k : ℕ) → k < l.i → get_or l.bytes k 0 ≡ get_or corrected k 0;
}
