-- From the contract of a call to that of the call for C.
use Rattle.std.proofs.Common.{◌≡◌, ◌+◌, ℕ, Some, None, refl, ap, sym, subst, ◌∙◌}
use denote.Enum.Declared.{tag_of}
use Rattle.goqlanis_buffers.specs.contracts.answers.Refusal.{the_type}
use Rattle.goqlanis_buffers.specs.declared.answers.Refusal.TheVariants.{NoSuchLevel}
use Rattle.std.specs.Prelude.{Result, Ok, Err, IsSomeAnd}
use Rattle.goqlanis_buffers.specs.Answers.{refusal_of}
use Rattle.goqlanis_buffers.specs.Calls.{refusal_at, IsAnswer, IsAnswerAt, IsReported, IsReportedAt}
use Rattle.goqlanis_buffers.specs.declared.answers.Fault.{Fault}
use Rattle.goqlanis_buffers.specs.declared.answers.Refusal.{Refusal}

-- the number of an error is one more than its place among the errors
pub numbered : (r : Refusal) → refusal_of (tag_of the_type r + 1) ≡ Some r
numbered NoSuchLevel = refl
numbered r = refl

-- 0 is not the number of an error
not_zero : (number : ℕ) (refusal : Refusal) → refusal_of number ≡ Some refusal → number ≡ 0 → ⊥
not_zero number refusal is zero = let none : None ≡ Some refusal = sym (ap refusal_of zero) ∙ is in absurd cc

-- what holds of a result also holds of what C gets of it
pub reported : {T : Type 0} (Does : Result T Refusal → Type 0) (result : Result T Refusal) (number : ℕ) (old new : T)
    → IsAnswer result number old new → Does result → IsReported Does number old new
reported Does (Ok value) number old new answer holds = record {
  made = λ zero. subst (λ v. Does (Ok v)) (sym answer.ok.1) holds;
  refused = λ other. absurd (other answer.ok.0);
  unchanged = λ other. absurd (other answer.ok.0);
}
reported Does (Err refusal) number old new answer holds = record {
  made = λ zero. absurd (not_zero number refusal answer.err.0 zero);
  refused = λ other. subst (λ o. IsSomeAnd o (λ r. Does (Err r))) (sym answer.err.0) holds;
  unchanged = λ other. answer.err.1;
}

-- the same with what is wrong
pub reported_at : {T : Type 0} (Does : Result T Fault → Type 0) (result : Result T Fault) (number : ℕ) (old new : T) (before after : ℕ)
    → IsAnswerAt result number old new before after → Does result → IsReportedAt Does number old new before after
reported_at Does (Ok value) number old new before after answer holds = record {
  made = λ zero. subst (λ v. Does (Ok v)) (sym answer.ok.1) holds;
  place_unchanged = λ zero. answer.ok.2;
  refused = λ other. absurd (other answer.ok.0);
  unchanged = λ other. absurd (other answer.ok.0);
}
reported_at Does (Err fault) number old new before after answer holds = record {
  made = λ zero. absurd (not_zero number (refusal_at fault) answer.err.0 zero);
  place_unchanged = λ zero. absurd (not_zero number (refusal_at fault) answer.err.0 zero);
  refused = λ other. record { fault = fault; cause = holds; answered = answer.err.0; placed = answer.err.2 };
  unchanged = λ other. answer.err.1;
}
