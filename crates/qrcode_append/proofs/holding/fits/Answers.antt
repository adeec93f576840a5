use Rattle.std.proofs.Common.{sym, arith, true≢false}
use Rattle.qrcode_append.proofs.Parts.{too_many}
use Rattle.qrcode_append.proofs.holding.fits.Goals as goal

pub returns-then-front-bytes-clause-value : goal.returns-then-front-bytes-clause-value
returns-then-front-bytes-clause-value c = (
  λ no. absurd (true≢false (sym no)),
  λ all. absurd (too_many c.args.wanted.manner c.args.wanted.version c.args.bytes.now c.args.front c.args.room (omega arith) all),
)
