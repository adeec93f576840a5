use Rattle.std.proofs.Common.{◌≡◌, get_or, ap, ◌∙◌, arith}
use Rattle.qrcode_ec.specs.Field.{power}
use Rattle.qrcode_ec.specs.declared.field.TheConstants.{LOGARITHMS}
use Rattle.qrcode_ec.proofs.Powers.{logarithm_at}
use Rattle.qrcode_ec.proofs.field.logarithm.Goals as goal

entry : (c : goal.After-into) → c.into.result ≡ get_or LOGARITHMS c.args.byte 0
entry c = c.into.ensures ∙ ap (λ b. get_or LOGARITHMS b 0) c.from.ensures

pub returns-clause-at_most : goal.returns-clause-at_most
returns-clause-at_most c = omega (arith, entry c, (logarithm_at c.args.byte c.requires (omega arith)).0)

pub returns-clause-value : goal.returns-clause-value
returns-clause-value c = ap power (entry c) ∙ (logarithm_at c.args.byte c.requires (omega arith)).1
