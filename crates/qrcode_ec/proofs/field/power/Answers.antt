use Rattle.std.proofs.Common.{ap, sym, ◌∙◌, ◌%◌, arith}
use Rattle.qrcode_ec.specs.Field.{power, product}
use Rattle.qrcode_ec.proofs.Powers.{power_add, power_mod, power_injective, power_at}
use Rattle.qrcode_ec.proofs.field.power.Goals as goal

pub returns-clause-value : goal.returns-clause-value
returns-clause-value c = power_at (c.args.exponent % 255) (omega arith) ∙ power_mod c.args.exponent

pub returns-clause-sum : goal.returns-clause-sum
returns-clause-sum c = λ other. power_add c.args.exponent other ∙ ap (λ x. product x (power other)) (sym (returns-clause-value c))

pub returns-clause-apart : goal.returns-clause-apart
returns-clause-apart c = λ other below other_below differ same.
    differ (power_injective other c.args.exponent other_below below (same ∙ returns-clause-value c))
