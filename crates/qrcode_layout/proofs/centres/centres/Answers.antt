use Rattle.std.proofs.Common.{refl}
use Rattle.qrcode_layout.specs.Figures.{centres}
use Rattle.qrcode_layout.proofs.centres.centres.Goals as goal

pub returns-in-Micro-clause-value : goal.returns-in-Micro-clause-value
unfolding centres
returns-in-Micro-clause-value c = rw c.in-Micro.is refl
