use Rattle.std.proofs.Common.{ap, ◌∙◌}
use Rattle.qrcode_bits.proofs.Several.{handed_on}
use Rattle.goqlanis_request.specs.Elements.{number_of_normal, IsApplicationRefused}
use Rattle.goqlanis_request.proofs.Choices.{application_refused}
use Rattle.goqlanis_request.proofs.elements.symbol_for_application.Goals as goal

pub returns-in_err-code-clause-causes : goal.returns-in_err-code-clause-causes
returns-in_err-code-clause-causes c =
    let a = c.args in
    let from = c.number_of-from.ensures.value ∙ ap number_of_normal c.first_of.ensures in
    handed_on c.from_residual.result _ (IsApplicationRefused a.choice a.application a.level a.bytes.now) c.from_residual.ensures
    (application_refused a.choice _ a.application a.level a.bytes.now _ from c.in_err-code.ensures.causes)
