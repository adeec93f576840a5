use Rattle.std.proofs.Common.{◌≡◌, ◌-◌, ap, ◌∙◌, arith, inl, inr}
use Rattle.std.specs.Prelude.{slice_index}
use Rattle.qrcode_charsets.specs.ShiftJis.{pair_row}
use Rattle.qrcode_charsets.proofs.PairTable.{none_beyond, pair_read}
use Rattle.qrcode_charsets.proofs.shift_jis.pair_character.Goals as goal

pub returns-then-lead-gt234 : goal.returns-then-lead-gt234
returns-then-lead-gt234 c = none_beyond c.args.lead c.args.trail c.requires (elim c.then-lead-gt234.branch [
  | goal.then-lead-gt234-via-then-lead-gt234 w ↦ inl w.if-lead-gt234.true
  | goal.then-lead-gt234-via-else-lead-gt234+then-trail-lt64 w ↦ inr (inl w.if-trail-lt64.true)
  | goal.then-lead-gt234-via-else-lead-gt234+else-trail-lt64+then-trail-gt252 w ↦ inr (inr w.if-trail-gt252.true)
])

pub returns : goal.returns
returns c =
    let b = c.args.lead in
    let t = c.args.trail in
    let place : c.from-place.result - 0x40 ≡ t - 0x40 = omega arith in
    pair_read b t c.cell-character.result (omega arith) (c.cell-character.ensures ∙ ap (slice_index (pair_row b)) place) c.if-character-eq0.false
