use Rattle.std.proofs.Common.{◌≡◌, ℕ, ◌<◌, get_or}
use Rattle.qrcode_charsets.specs.Charsets.{page_characters}
use Rattle.qrcode_charsets.proofs.sets.CodePage.byte.Given as goal

abbrev pub invariant-loop-place : goal.invariant-loop-place
invariant-loop-place l = (i : ℕ) → i < l.place → ¬ (get_or (page_characters l.self) i 0 ≡ l.fn.character)
