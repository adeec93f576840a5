-- Texts of values that pass their checks.
use Rattle.std.proofs.Common.{◌≡◌, ℕ, List, Option, Some, None, Result, Ok, Err, [], ◌∷◌, Bool, true, false, nat_lt, length, if◌then◌else◌, inl, inr, subst, sym, refl, arith}
use Rattle.std.specs.Prelude.{string_bytes, IfOk, OnOk, IsOkUnless}
use Rattle.std.specs.declared.string.String.{String}
use Rattle.std.specs.declared.alloc.Global.{Global}
use Rattle.std.proofs.lemmas.Bool.Decides.{nat_tests}
use Rattle.qrcode_contents.specs.declared.fields.errors.Field.{Field}
use Rattle.qrcode_contents.specs.declared.fields.errors.Cause.{Cause}
use Rattle.qrcode_contents.specs.declared.fields.errors.ContentError.{ContentError}
use Rattle.qrcode_contents.specs.declared.fields.errors.ContentError.TheVariants.{Refused, OutOfMemory}
use Rattle.qrcode_contents.specs.fields.Refusals.{Answers, checked, refused_if, first_refusal}

-- a check that passes has no error
pub checked_none : (refusal : Option ContentError) (r : Result (Unit {0}) ContentError) (x : Unit {0}) → r ≡ checked refusal → r ≡ Ok x → refusal ≡ None
checked_none refusal r x h k = grind (arith, nat_tests)

-- a text that is written if a check passes
pub answered : (refusal : Option ContentError) (check : Result (Unit {0}) ContentError) (x : Unit {0}) → check ≡ checked refusal → check ≡ Ok x → (r : Result (String Global) ContentError) (text : List ℕ) (P : List ℕ → Type 0) → IfOk r (λ t. string_bytes t ≡ text) → IsOkUnless r OutOfMemory → (refusal ≡ None → P text) → Answers refusal r P
answered refusal check x is ok (Ok t) text P written memory says = let none = checked_none refusal check x is ok in (none, subst P (sym written) (says none))
answered refusal check x is ok (Err e) text P written memory says = inr memory

-- a text that is written if nothing is rejected, and that may be too long
pub limited : (checks : Option ContentError) (r : Result (String Global) ContentError) (t : String Global) (text : List ℕ) (field : Field) (cause : Cause) (P : List ℕ → Type 0) → checks ≡ None → string_bytes t ≡ text → r ≡ (if nat_lt 331 (length (string_bytes t)) then Err (Refused field cause) else Ok t) → P text → Answers (first_refusal (checks ∷ refused_if (nat_lt 331 (length text)) field cause ∷ [])) r P
limited checks r t text field cause P none is result says =
    subst (λ bytes. Answers (first_refusal (checks ∷ refused_if (nat_lt 331 (length bytes)) field cause ∷ [])) r P) is
    (subst (λ o. Answers (first_refusal (o ∷ refused_if (nat_lt 331 (length (string_bytes t))) field cause ∷ [])) r P) (sym none)
    (by_test (nat_lt 331 (length (string_bytes t))) t field cause r P result (subst P (sym is) says)))
  where
    by_test : (long : Bool) (t : String Global) (field : Field) (cause : Cause) (r : Result (String Global) ContentError) (P : List ℕ → Type 0) → r ≡ (if long then Err (Refused field cause) else Ok t) → P (string_bytes t) → Answers (first_refusal (refused_if long field cause ∷ [])) r P
    by_test true t field cause r P is says = subst (λ x. Answers (Some (Refused field cause)) x P) (sym is) (inl refl)
    by_test false t field cause r P is says = subst (λ x. Answers None x P) (sym is) (refl, says)

-- a text that is written if nothing is rejected, by a call whose contract gives what the property of the text needs
pub answered_by : (refusal : Option ContentError) (r : Result (String Global) ContentError) (text : List ℕ) (P : List ℕ → Type 0) (Q : Type 0) → refusal ≡ None → IfOk r (λ t. string_bytes t ≡ text) → IsOkUnless r OutOfMemory → OnOk r Q → (Q → P text) → Answers refusal r P
answered_by refusal (Ok t) text P Q none is memory says follows = (none, subst P (sym is) (follows says))
answered_by refusal (Err e) text P Q none is memory says follows = inr memory
