use Rattle.std.proofs.Common.{◌≡◌, ◌↔◌, IsTrue, true, false, refl, ap₂}
use Rattle.std.proofs.lemmas.Bool.{and_from, and_parts}
use Rattle.qrcode_contents.specs.declared.fields.errors.Cause.{Cause}
use Rattle.qrcode_contents.specs.declared.fields.errors.ContentError.{ContentError}
use Rattle.qrcode_contents.specs.declared.fields.errors.ContentError.TheVariants.{Refused, OutOfMemory}
use Rattle.qrcode_contents.specs.declared.fields.errors.Field.{Field}
use Rattle.qrcode_contents.specs.contracts.fields.errors.FieldPartialEq.TheImpl as of_fields
use Rattle.qrcode_contents.specs.contracts.fields.errors.CausePartialEq.TheImpl as of_causes
use Rattle.qrcode_contents.specs.contracts.fields.errors.ContentErrorPartialEq.TheImpl as of_errors
use Rattle.qrcode_contents.proofs.fields.laws.error_equality.Goals as goal

by_cases : ((a b : Field) → IsTrue ((of_fields.ghosts).eq a b) ↔ (a ≡ b)) → ((a b : Cause) → IsTrue ((of_causes.ghosts).eq a b) ↔ (a ≡ b)) → (a b : ContentError) → IsTrue ((of_errors.ghosts).eq a b) ↔ (a ≡ b)
by_cases f k OutOfMemory OutOfMemory = (λ _. refl, λ _. refl)
by_cases f k OutOfMemory (Refused x y) = (λ h. let no : false ≡ true = h in cc, λ e. let never : OutOfMemory ≡ Refused x y = e in cc)
by_cases f k (Refused x y) OutOfMemory = (λ h. let no : false ≡ true = h in cc, λ e. let never : Refused x y ≡ OutOfMemory = e in cc)
by_cases f k (Refused x y) (Refused z w) = (
  λ h. let b = and_parts _ _ h in ap₂ Refused ((f x z).0 b.0) ((k y w).0 b.1),
  λ e. let same : x ≡ z = cc in let alike : y ≡ w = cc in and_from _ _ ((f x z).1 same) ((k y w).1 alike),
)

pub returns : goal.returns
returns c = by_cases c.equality.ensures.fields c.equality.ensures.reasons
