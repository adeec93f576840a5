use Rattle.qrcode_reader.proofs.NoHeader.{no_second}
use Rattle.qrcode_reader.proofs.spell.headers.fnc1_second.Goals as goal

pub returns-in_err-number-clause-none : goal.returns-in_err-number-clause-none
returns-in_err-number-clause-none c = rw c.from_residual.ensures (no_second c.args.bits.now c.in_err-number.ensures.too_short)
