use Rattle.std.proofs.Common.{◌≡◌, ℕ, ◌<◌, get_or}
use Rattle.qrcode_charsets.specs.ShiftJis.{pair_row}
use Rattle.qrcode_charsets.proofs.shift_jis.trail_of.Given as goal

abbrev pub invariant-loop-place : goal.invariant-loop-place
invariant-loop-place l = (k : ℕ) → k < l.place → ¬ (get_or (pair_row l.lead) k 0 ≡ l.character)
