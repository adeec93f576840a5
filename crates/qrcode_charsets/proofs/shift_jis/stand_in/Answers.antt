use Rattle.std.proofs.Common.{◌≡◌, ◌⊎◌, List, ℕ, ◌+◌, [], ◌∷◌, ◌++◌, false, drop, get_or, length, inl, inr, sym, ap, ◌∙◌, arith, append_assoc}
use Rattle.qrcode_types.specs.Characters.{is_lead}
use Rattle.qrcode_charsets.specs.ShiftJis.{stand_in}
use Rattle.qrcode_charsets.proofs.StandIns.{next_pair, next_single}
use Rattle.qrcode_charsets.proofs.shift_jis.stand_in.Goals as goal
use Rattle.qrcode_charsets.proofs.shift_jis.stand_in.Goals.{else-is_lead-via-then-is_lead+else-bytes-place-gt1, else-is_lead-via-else-is_lead}

pub loop-place-preserved-then-bytes-place-gt1 : goal.loop-place-preserved-then-bytes-place-gt1
loop-place-preserved-then-bytes-place-gt1 c =
    let old = c.loop-place.made.items in
    let after = stand_in (drop (c.loop-place.place + 2) c.args.bytes.now) in
    record {
      inside = omega arith;
      rest = ap (λ (z : List ℕ). z ++ after) (c.in_ok-push-2.ensures.items ∙ ap (λ (z : List ℕ). z ++ (0xFC ∷ [])) c.in_ok-push.ensures.items)
          ∙ ap (λ (z : List ℕ). z ++ after) (append_assoc old (0x81 ∷ []) (0xFC ∷ [])) ∙ append_assoc old (0x81 ∷ 0xFC ∷ []) after
          ∙ ap (λ (z : List ℕ). old ++ z) (sym (next_pair c.args.bytes.now c.loop-place.place (omega arith) (sym c.is_lead.ensures ∙ c.if-is_lead.true)))
          ∙ c.loop-place.invariant.rest;
    }

pub loop-place-preserved : goal.loop-place-preserved
loop-place-preserved c =
    let bytes = c.args.bytes.now in
    let i = c.loop-place.place in
    let old = c.loop-place.made.items in
    let after = stand_in (drop (i + 1) bytes) in
    let plain_or : (is_lead (get_or bytes i 0) ≡ false) ⊎ (i + 1 ≡ length bytes) = elim c.else-is_lead.branch [
      | else-is_lead-via-then-is_lead+else-bytes-place-gt1 w ↦ inr (omega (arith, w.if-bytes-place-gt1.false, c.loop-place-test.true))
      | else-is_lead-via-else-is_lead w ↦ inl (sym c.is_lead.ensures ∙ w.if-is_lead.false)
    ] in
    record {
      inside = omega arith;
      rest = ap (λ (z : List ℕ). z ++ after) c.in_ok-push-3.ensures.items ∙ append_assoc old (get_or bytes i 0 ∷ []) after
          ∙ ap (λ (z : List ℕ). old ++ z) (sym (next_single bytes i c.loop-place-test.true plain_or))
          ∙ c.loop-place.invariant.rest;
    }
