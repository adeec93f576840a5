use Rattle.std.proofs.Common.{◌≡◌, ℕ, ◌<◌, Some, IsTrue}
use Rattle.qrcode_types.specs.Characters.{is_lead}
use Rattle.qrcode_charsets.specs.ShiftJis as pairs
use Rattle.qrcode_charsets.proofs.shift_jis.pair_of.Given as goal

abbrev pub invariant-loop-lead : goal.invariant-loop-lead
invariant-loop-lead l = (b c : ℕ) → b < l.lead → IsTrue (is_lead b) → ¬ (pairs.pair_character b c ≡ Some l.character)
