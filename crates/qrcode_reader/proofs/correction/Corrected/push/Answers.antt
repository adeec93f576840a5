use Rattle.std.proofs.Common.{◌≡◌, ◌-◌, ◌++◌, List, ℕ, false, length, take, refl, sym, ap, ap₂, subst, ◌∙◌, arith, inr, true≢false, Result, Ok, Err, IfOk}
use Rattle.std.specs.Result.{is_err}
use Rattle.std.proofs.lemmas.List.{with_items_is}
use Rattle.qrcode_ec.specs.Codes.{Corrects}
use Rattle.qrcode_reader.specs.Corrected.{wrong_of_block}
use Rattle.qrcode_reader.proofs.correction.Corrected.push.Goals as goal
use Rattle.qrcode_reader.proofs.correction.Corrected.push.Goals.{After-is_err}

-- the copy that is corrected is the block
given : (c : After-is_err) → c.deref_mut.result.now ≡ c.args.block.now
given c = c.deref_mut.ensures.value ∙ c.in_ok-corrected.ensures.items

pub returns-then-is_err-clause-refused : goal.returns-then-is_err-clause-refused
returns-then-is_err-clause-refused c = inr (
  refl,
  λ bytes corrects.
      let same = given (goal.at.returns-then-is_err-clause-refused c).After-is_err in
      let ok = c.correct.ensures.accepts bytes (subst (λ b. Corrects b c.args.corrector.now.divider.degree bytes) (sym same) corrects) in
      cc (c.if-is_err.ensures.negation),
)

-- what a result promises if it is no error
when_ok : {T E P : Type 0} (r : Result T E) → is_err r ≡ false → IfOk r (λ _. P) → P
when_ok (Ok x) e h = h
when_ok (Err x) e h = absurd (true≢false e)

pub returns-clause-taken : goal.returns-clause-taken
returns-clause-taken c =
    let k = (goal.at.returns-clause-taken c).After-is_err in
    let n = c.args.corrector.now.divider.degree in
    let new = c.correct.new.block in
    let old = c.args.self.now in
    let items = with_items_is c.in_ok-corrected.corrected new (omega (arith, c.correct.auto.block, c.deref_mut.ensures.len, ap length c.deref_mut.ensures.value)) in
    let size : c.saturating_sub-data_length.result ≡ length new - n = omega (arith, c.saturating_sub-data_length.ensures, c.len.ensures, c.correct.auto.block, c.deref_mut.ensures.len, ap length items) in
    record {
      corrected = new;
      corrects = subst (λ b. Corrects b n new) (given k) (when_ok c.correct.result (sym c.is_err.ensures.value ∙ c.if-is_err.false) c.correct.ensures.value);
      holds = c.in_ok-extend_from_slice.ensures.items ∙ ap₂ (λ (k : ℕ) (xs : List ℕ). old.data.items ++ take k xs) size (c.deref.ensures.value ∙ items);
      places = c.in_ok-push_wrong.ensures ∙ ap (λ (xs : List ℕ). old.wrong.items ++ wrong_of_block c.args.number c.args.block.now xs) (c.deref-2.ensures.value ∙ items);
    }
