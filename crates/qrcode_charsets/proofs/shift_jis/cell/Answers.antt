use Rattle.std.proofs.Common.{◌≡◌, ◌-◌, [], ap, ap₂, sym, ◌∙◌, arith, slice_index_or, nat_lt}
use Rattle.std.specs.Prelude.{slice_index}
use Rattle.std.proofs.lemmas.Bool.{cond-true, cond-false, lt-ltb, le-ltb}
use Rattle.qrcode_charsets.specs.Pairs.{low_pairs, high_pairs}
use Rattle.qrcode_charsets.specs.ShiftJis.{pair_row}
use Rattle.qrcode_charsets.proofs.PairRows.{same_low, same_high}
use Rattle.qrcode_charsets.proofs.shift_jis.cell.Goals as goal

pub returns-then-lead-lt224 : goal.returns-then-lead-lt224
unfolding pair_row
returns-then-lead-lt224 c =
    let b = c.args.lead in
    let place : c.from-number.result - 0x81 ≡ b - 0x81 = omega arith in
    ap₂ (λ table i. slice_index_or (slice_index_or table i []) c.args.place 0) same_low place
    ∙ sym (ap (λ row. slice_index row c.args.place) (cond-true (nat_lt b 0xE0) (slice_index_or low_pairs (b - 0x81) []) (slice_index_or high_pairs (b - 0xE0) []) (lt-ltb b 0xE0 c.if-lead-lt224.true)))

pub returns-else-lead-lt224 : goal.returns-else-lead-lt224
unfolding pair_row
returns-else-lead-lt224 c =
    let b = c.args.lead in
    let place : c.from-number.result - 0xE0 ≡ b - 0xE0 = omega arith in
    ap₂ (λ table i. slice_index_or (slice_index_or table i []) c.args.place 0) same_high place
    ∙ sym (ap (λ row. slice_index row c.args.place) (cond-false (nat_lt b 0xE0) (slice_index_or low_pairs (b - 0x81) []) (slice_index_or high_pairs (b - 0xE0) []) (le-ltb b 0xE0 c.if-lead-lt224.false)))
