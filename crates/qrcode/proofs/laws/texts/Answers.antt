use Rattle.qrcode.proofs.TextSymbols.{shown_bits}
use Rattle.qrcode.proofs.laws.texts.Goals as goal

pub returns : goal.returns
returns c = shown_bits
