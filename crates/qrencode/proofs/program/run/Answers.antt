use Rattle.std.proofs.Common.{◌≡◌, Option, Some, IfSome, IfOk, IfErr, sym, subst}
use Rattle.qrcode_types.specs.declared.types.EcLevel.TheVariants.{M}
use Rattle.qrcode_bits.specs.Choice.{IsRefused}
use Rattle.qrencode.proofs.Runs.{is_run-made}
use Rattle.qrencode.specs.Words.{IsTerminalText}
use Rattle.qrencode.proofs.program.run.Goals as goal

if_some : {A : Type 0} (o : Option A) (x : A) (P : A → Type 0) → o ≡ Some x → P x → IfSome o P
if_some o x P is holds = subst (λ o. IfSome o P) (sym is) holds

pub returns-clause-runs : goal.returns-clause-runs
returns-clause-runs g c =
    let value = subst (λ bytes. IfOk c.picture.result (λ text. IsTerminalText bytes text.items)) c.as_bytes.ensures.value c.picture.ensures.value in
    let causes = subst (λ bytes. IfErr c.picture.result (IsRefused M bytes)) c.as_bytes.ensures.value c.picture.ensures.causes in
    if_some _ _ _ c.in-Some.is
    (is_run-made (λ v. v.items) c.picture.result (IsTerminalText c.in-Some.text.now) (IsRefused M c.in-Some.text.now) _ _ _ value causes c.deliver.ensures)
