use Rattle.std.proofs.Common.{◌+◌, ◌%◌, ◌∙◌, ap, get_or, arith}
use Rattle.qrcode_ec.specs.declared.field.TheConstants.{POWERS}
use Rattle.qrcode_ec.proofs.Powers.{power_at, power_mod}
use Rattle.qrcode_ec.proofs.field.power_of_sum.Goals as goal

pub returns : goal.returns
returns c =
    let sum = c.args.first + c.args.second in
    ap (λ n. get_or POWERS n 0) c.come_round.ensures ∙ power_at (sum % 255) (omega arith) ∙ power_mod sum
