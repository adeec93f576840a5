use Rattle.qrcode_charsets.proofs.Designated.{written_under, under_one_way}
use Rattle.qrcode_charsets.proofs.laws.designators.Goals as goal

pub returns : goal.returns
returns c = record { written = written_under; read = under_one_way }
