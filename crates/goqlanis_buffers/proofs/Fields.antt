-- Fields that are checked one by one.
use Rattle.std.proofs.Common.{◌≡◌, ◌<◌, ℕ, List, length, sym, subst, true, false, true≢false, Result, Ok, Err}
use Rattle.std.specs.Prelude.{IsErr, IsErrAnd, IfErr, IfOk, OnErr, OnOk, IsUtf8}
use Rattle.std.specs.Str.{is_utf8}
use Rattle.std.proofs.lemmas.Bool.{false_from_ne_true}
use Rattle.goqlanis_buffers.specs.Calls.{Writes}
use Rattle.goqlanis_buffers.specs.Outputs.{IsFilled}
use Rattle.goqlanis_buffers.specs.declared.answers.Refusal.{Refusal}
use Rattle.goqlanis_buffers.specs.declared.answers.Refusal.TheVariants.{SmallBuffer}
use Rattle.std.proofs.lemmas.Str.{IsUtf8-from_is_utf8, is_utf8-from_IsUtf8}

-- exactly the bytes that are UTF-8 pass the test
pub text_test : (bytes : List ℕ) → IsUtf8 bytes → is_utf8 bytes ≡ true
text_test bytes h = is_utf8-from_IsUtf8 bytes h

pub no_text_test : (bytes : List ℕ) → ¬ IsUtf8 bytes → is_utf8 bytes ≡ false
no_text_test bytes h = false_from_ne_true (is_utf8 bytes) (λ is. h (IsUtf8-from_is_utf8 bytes is))

-- an error that `?` passes on
pub handed_on : {T R : Type 0} (result : Result T R) (r : R) (P : R → Type 0) → IsErr result × IsErrAnd result (λ x. x ≡ r) → P r → IfErr result P
handed_on (Ok u) r P h p = tt
handed_on (Err x) r P h p = subst P (sym h.1) p

-- such an error of a call that writes to a buffer
pub handed_back : {A T E : Type 0} (Made : List A → T → Type 0) (Cause : E → Type 0) (old new : List A) (result : Result T E) (e : E)
    → IsErr result × IsErrAnd result (λ x. x ≡ e) → new ≡ old → Cause e → Writes Made Cause old new result
handed_back Made Cause old new (Ok value) e h same cause = absurd (true≢false (sym h.0))
handed_back Made Cause old new (Err x) e h same cause = record { made = tt; unchanged = same; causes = subst Cause (sym h.1) cause }

-- what `put` does with items
pub put_as : {A : Type 0} (Made : List A → ℕ → Type 0) (Cause : Refusal → Type 0) (old new items : List A) (result : Result ℕ Refusal)
    → OnOk result (IsFilled old new items) → IfOk result (λ count. count ≡ length items) → OnErr result (new ≡ old) → IfErr result (λ r. r ≡ SmallBuffer)
    → OnErr result (length old < length items) → ((count : ℕ) → IsFilled old new items → count ≡ length items → Made new count) → (length old < length items → Cause SmallBuffer)
    → Writes Made Cause old new result
put_as Made Cause old new items (Ok count) filled counted same is small made cause = record { made = made count filled counted; unchanged = tt; causes = tt }
put_as Made Cause old new items (Err r) filled counted same is small made cause = record { made = tt; unchanged = same; causes = subst Cause (sym is) (cause small) }
