use Rattle.qrcode_charsets.proofs.Writings.{written_one_way, read_one_way}
use Rattle.qrcode_charsets.proofs.laws.texts.Goals as goal

pub returns : goal.returns
returns c = record { written = written_one_way; read = read_one_way }
