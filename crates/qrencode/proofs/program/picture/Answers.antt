use Rattle.std.proofs.Common.{◌∙◌, ap}
use Rattle.qrencode.proofs.program.picture.Goals as goal

-- The text is that of the symbol that was made.
pub returns-clause-value : goal.returns-clause-value
returns-clause-value c =
    let code = c.in_ok-code.code in
    (code.version, code.modules, c.in_ok-code.ensures.symbol, ap (λ v. v.items) c.into_bytes.ensures.value ∙ c.in_ok-cells.ensures.value)
