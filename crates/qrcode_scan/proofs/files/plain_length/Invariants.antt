use Rattle.std.proofs.Common.{◌≡◌, ℕ, ◌<◌, true, get_or}
use Rattle.qrcode_scan.specs.Files.{is_plain}
use Rattle.qrcode_scan.proofs.files.plain_length.Given as goal

abbrev pub invariant-loop-i : goal.invariant-loop-i
invariant-loop-i l = (k : ℕ) → k < l.i → is_plain (get_or l.bytes k 0) ≡ true
