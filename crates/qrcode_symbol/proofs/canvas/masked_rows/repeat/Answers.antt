use Rattle.qrcode_symbol.proofs.MaskRows.{has_repeated}
use Rattle.qrcode_symbol.proofs.canvas.masked_rows.repeat.Goals as goal

pub returns : goal.returns
returns c = λ k h. has_repeated c.args.six k c.requires h
