use Rattle.qrcode_damage.proofs.Refused.{too_much_is_not}
use Rattle.qrcode_damage.proofs.damage.damaged.Goals as goal

pub returns-in-Some-clause-accepts : goal.returns-in-Some-clause-accepts
returns-in-Some-clause-accepts c = λ room. absurd (too_much_is_not c.args.version c.args.ec_level c.args.damage c.in-Some.error c.in-Some.ensures.some room)
