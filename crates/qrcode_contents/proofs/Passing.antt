-- Checks that pass.
use Rattle.std.proofs.Common.{◌≡◌, Bool, false, List, [], ◌∷◌, Option, Some, None, refl, arith}
use Rattle.std.proofs.lemmas.Bool.Decides.{nat_tests}
use Rattle.qrcode_contents.specs.declared.fields.errors.ContentError.{ContentError}
use Rattle.qrcode_contents.specs.declared.fields.errors.Field.{Field}
use Rattle.qrcode_contents.specs.declared.fields.errors.Cause.{Cause}
use Rattle.qrcode_contents.specs.fields.Refusals.{refused_if, first_refusal}

-- if no check rejects, neither the first nor the later ones do
pub passes : (first : Option ContentError) (later : List (Option ContentError)) → first_refusal (first ∷ later) ≡ None → (first ≡ None) × (first_refusal later ≡ None)
passes None later is = (refl, is)
passes (Some e) later is = cc

-- all checks pass
abbrev pub AllPass : List (Option ContentError) → Type 0
AllPass [] = Unit {0}
AllPass (check ∷ checks) = (check ≡ None) × AllPass checks

-- if there is no first error, all checks pass
pub all_pass : (checks : List (Option ContentError)) → first_refusal checks ≡ None → AllPass checks
all_pass [] is = tt
all_pass (check ∷ checks) is = let first = passes check checks is in (first.0, all_pass checks first.1)

-- if a check passes, its test fails
pub test_passes : (test : Bool) (field : Field) (cause : Cause) → refused_if test field cause ≡ None → test ≡ false
test_passes test field cause h = grind (arith, nat_tests)
