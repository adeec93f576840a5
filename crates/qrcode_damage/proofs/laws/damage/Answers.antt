use Rattle.qrcode_damage.proofs.Promised.{promise_is_exact}
use Rattle.qrcode_damage.proofs.laws.damage.Goals as goal

pub returns : goal.returns
returns c = promise_is_exact
