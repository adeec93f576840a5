use Rattle.std.proofs.Common.{true, false, rules, sym, ap, subst, ◌∙◌, arith, pos}
use Rattle.std.proofs.lemmas.Result.{IfOk-weaker}
use Rattle.qrcode_types.specs.declared.types.EcLevel.TheVariants.{L}
use Rattle.qrcode_types.specs.declared.types.Version.TheVariants.{Micro}
use Rattle.qrcode_types.specs.declared.types.Version.{Version}
use Rattle.qrcode_render.specs.Picture.{picture}
use Rattle.qrcode_render.specs.Texts.{dense_text}
use Rattle.qrcode.specs.Pictures.{layout_in}
use Rattle.qrcode_bits.specs.Choice.{Holds}
use Rattle.qrcode.specs.Acceptance.{IsLeastSymbol}
use Rattle.qrcode_facts.proofs.Tickets.{number_accepted}
use Rattle.qrcode_facts.proofs.ticket.ticket_blocks.Goals as goal

pub returns-in_err-code-clause-accepts : goal.returns-in_err-code-clause-accepts
returns-in_err-code-clause-accepts c =
    let bytes = c.as_bytes.ensures.value ∙ c.in_ok-digits.ensures.ok in
    let memory = c.in_err-code.ensures.accepts (subst (λ b. Holds (Micro (pos 2)) L b) (sym bytes) (number_accepted c.args.number (omega arith))) in
    search rules

pub returns-clause-picture : goal.returns-clause-picture
returns-clause-picture c =
    let code = c.in_ok-code.code in
    let bytes = c.as_bytes.ensures.value ∙ c.in_ok-digits.ensures.ok in
    let symbol = subst (λ b. IsLeastSymbol (Micro (pos 2)) L b code.modules) bytes c.in_ok-code.ensures.symbol in
    let shown = λ (v : Version). dense_text false true (picture (layout_in 1 v) code.modules) in
    IfOk-weaker c.light_blocks.result _ _ (λ text e. record { colors = code.modules; symbol = symbol; drawn = e ∙ ap shown c.in_ok-code.ensures.version }) c.light_blocks.ensures.drawing
