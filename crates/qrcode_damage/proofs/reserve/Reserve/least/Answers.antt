use Rattle.std.proofs.Common.{subst}
use Rattle.qrcode_damage.specs.Reserves.{IsItsExcess}
use Rattle.qrcode_damage.proofs.Bounds.{excess_is_not, least_of}
use Rattle.qrcode_damage.proofs.reserve.Reserve.least.Goals as goal

pub returns-in-Some : goal.returns-in-Some
returns-in-Some c = λ v l area h. excess_is_not v l area c.in-Some.field-0 (subst (IsItsExcess v l area) c.in-Some.is (c.excess.ensures v l area h))

pub returns-in-None : goal.returns-in-None
returns-in-None c = λ v l area h. least_of v l area c.args.self.now c.checked_sub.result h (subst (IsItsExcess v l area) c.in-None.is (c.excess.ensures v l area h)) c.checked_sub.ensures
