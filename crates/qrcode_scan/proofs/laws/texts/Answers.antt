use Rattle.std.proofs.Common.{None, length}
use Rattle.qrcode_scan.proofs.ReadTexts.{texts_shown}
use Rattle.qrcode_scan.proofs.WrittenTexts.{one_text}
use Rattle.qrcode_scan.proofs.laws.texts.Goals as goal

pub returns : goal.returns
returns c = record { written = texts_shown; only = λ parts bytes text others s t. one_text (length bytes) None 0 parts bytes text others s t }
