-- Which field of a value is rejected, and for what cause.
use Rattle.std.specs.Prelude.{◌≡◌, ◌⊎◌, ℕ, Bool, true, false, List, [], ◌∷◌, Option, Some, None, Result, Ok, Err, string_bytes}
use Rattle.std.specs.declared.string.String.{String}
use Rattle.std.specs.declared.alloc.Global.{Global}
use Rattle.qrcode_contents.specs.declared.fields.errors.Field.{Field}
use Rattle.qrcode_contents.specs.declared.fields.errors.Cause.{Cause}
use Rattle.qrcode_contents.specs.declared.fields.errors.ContentError.{ContentError}
use Rattle.qrcode_contents.specs.declared.fields.errors.ContentError.TheVariants.{Refused, OutOfMemory}

-- rejects the field for this cause if the test holds
abbrev pub refused_if : Bool → Field → Cause → Option ContentError
refused_if true field cause = Some (Refused field cause)
refused_if false field cause = None

abbrev pub first_refusal : List (Option ContentError) → Option ContentError  -- the first error, if any
first_refusal [] = None
first_refusal (None ∷ later) = first_refusal later
first_refusal (Some e ∷ later) = Some e

abbrev pub checked : Option ContentError → Result (Unit {0}) ContentError  -- the result of a check with this error, or with none
checked None = Ok tt
checked (Some e) = Err e

-- Ok: nothing is rejected, and the text has the property. Err: the error is that refusal, or OutOfMemory
abbrev pub Answers : Option ContentError → Result (String Global) ContentError → (List ℕ → Type 0) → Type 0
Answers refusal (Ok text) P = (refusal ≡ None) × P (string_bytes text)
Answers refusal (Err e) P = (refusal ≡ Some e) ⊎ (e ≡ OutOfMemory)
