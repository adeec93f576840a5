use Rattle.std.proofs.Common.{◌≤◌, arith, inl, inr}
use Rattle.std.proofs.lemmas.Bool.{cases_lt}
use Rattle.qrcode_charsets.proofs.PairTable.{lead_range, no_row}
use Rattle.qrcode_charsets.proofs.shift_jis.pair_of.Goals as goal

pub returns : goal.returns
returns c = λ b d lead is.
    let small : b ≤ 0xEB = elim (lead_range b lead) [ inl low ↦ omega (arith, low.1) | inr high ↦ high.1 ] in
    elim (cases_lt b 0xEB) [
      | inl below ↦ c.loop-lead.invariant b d (omega (arith, below, c.loop-lead-test.false)) lead is
      | inr top ↦ no_row b d c.args.character is (omega (arith, small, top))
    ]
