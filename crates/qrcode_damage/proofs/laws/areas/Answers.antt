use Rattle.qrcode_damage.proofs.Shown.{area_is_damage, area_keeps_bits, reserve_is_damage, area_is_read, reserve_is_read}
use Rattle.qrcode_damage.proofs.Exact.{area_is_exact}
use Rattle.qrcode_damage.proofs.laws.areas.Goals as goal

pub returns-clause-damage : goal.returns-clause-damage
returns-clause-damage c = area_is_damage

pub returns-clause-read : goal.returns-clause-read
returns-clause-read c = area_is_read

pub returns-clause-read_bits : goal.returns-clause-read_bits
returns-clause-read_bits c = area_keeps_bits

pub returns-clause-reserve_damage : goal.returns-clause-reserve_damage
returns-clause-reserve_damage c = reserve_is_damage

pub returns-clause-reserve_read : goal.returns-clause-reserve_read
returns-clause-reserve_read c = reserve_is_read

pub returns-clause-exact : goal.returns-clause-exact
returns-clause-exact c = area_is_exact
