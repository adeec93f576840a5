use Rattle.qrcode_charsets.proofs.Rows.{characters_apart}
use Rattle.qrcode_charsets.proofs.laws.characters.Goals as goal

pub returns : goal.returns
returns c = characters_apart
