use Rattle.qrcode_reader.proofs.NoHeader.{no_append}
use Rattle.qrcode_reader.proofs.spell.headers.structured_append.Goals as goal

pub returns-in_err-number-clause-none : goal.returns-in_err-number-clause-none
returns-in_err-number-clause-none c = rw c.from_residual.ensures (no_append c.args.bits.now c.in_err-number.ensures.too_short)
