-- How the contract of `run` follows from that of `deliver`.
use Rattle.std.specs.Prelude.{◌≡◌, ℕ, List, Option, Result, Ok, Err, IsOkAnd, IfOk, IfErr}
use Rattle.std.proofs.Common.{subst}
use Rattle.qrcode_types.specs.declared.types.QrError.{QrError}
use Rattle.qrencode.specs.declared.program.Fault.{Fault}
use Rattle.qrencode.specs.declared.program.Fault.TheVariants.{MissingArgument, Qr, CannotWrite}
use Rattle.qrencode.specs.Runs.{IsRun}

-- if what was made satisfies Made, and its errors satisfy Refused, then so do the output and the errors of a run that delivers it
pub is_run-made : {T : Type 0} (items : T → List ℕ) (made : Result T QrError) (Made : List ℕ → Type 0) (Refused : QrError → Type 0) (old new : Option (List ℕ)) (result : Result Unit Fault)
    → IfOk made (λ x. Made (items x)) → IfErr made Refused
    → IsRun (λ bytes. IsOkAnd made (λ x. items x ≡ bytes)) (λ e. made ≡ Err e) old new result
    → IsRun Made Refused old new result
is_run-made items (Ok x) Made Refused old new (Ok u) makes refuses (bytes, is, appends) = (bytes, subst Made is makes, appends)
is_run-made items (Err e) Made Refused old new (Ok u) makes refuses (bytes, is, appends) = absurd is
is_run-made items made Made Refused old new (Err MissingArgument) makes refuses run = run
is_run-made items (Ok x) Made Refused old new (Err CannotWrite) makes refuses (bytes, is) = (bytes, subst Made is makes)
is_run-made items (Err e) Made Refused old new (Err CannotWrite) makes refuses (bytes, is) = absurd is
is_run-made items made Made Refused old new (Err (Qr e)) makes refuses (is, same) = (subst (λ r. IfErr r Refused) is refuses, same)
