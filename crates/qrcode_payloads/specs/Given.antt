-- Values read from fields, or the field that cannot be read.
use Rattle.std.specs.Prelude.{◌≡◌, ℕ, List, [], Option, Some, None, Result, Ok, Err}
use Rattle.qrcode_contents.specs.declared.fields.errors.Cause.{Cause}
use Rattle.qrcode_contents.specs.declared.fields.errors.ContentError.{ContentError}
use Rattle.qrcode_contents.specs.declared.fields.errors.ContentError.TheVariants.{Refused}
use Rattle.qrcode_contents.specs.declared.fields.errors.Field.{Field}

abbrev pub said : {A : Type 0} → Option A → Field → Cause → Result A ContentError  -- the value that was read, or the error of its field
said (Some value) field cause = Ok value
said None field cause = Err (Refused field cause)

abbrev pub with_value : {A B : Type 0} → Result A ContentError → (A → Result B ContentError) → Result B ContentError  -- goes on with a value; an error stays
with_value (Ok value) follows = follows value
with_value (Err e) follows = Err e

abbrev pub refusal_of : {A : Type 0} → (A → Option ContentError) → Result A ContentError → Option ContentError  -- why a value is rejected, or why it could not be read
refusal_of refusal (Ok value) = refusal value
refusal_of refusal (Err e) = Some e

abbrev pub text_of : {A : Type 0} → (A → List ℕ) → Result A ContentError → List ℕ  -- the text of a value; empty if it could not be read
text_of text (Ok value) = text value
text_of text (Err e) = []

abbrev pub IsRead : {A : Type 0} → (List ℕ → Option A) → Result A ContentError → List ℕ → Type 0  -- reading the text gives exactly the value
IsRead read (Ok value) text = read text ≡ Some value
IsRead read (Err e) text = ⊥
