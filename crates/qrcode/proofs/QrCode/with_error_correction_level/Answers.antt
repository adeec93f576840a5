use Rattle.std.proofs.Common.{rules}
use Rattle.qrcode.proofs.Sealing.{chosen_symbol}
use Rattle.qrcode.proofs.Spelled.{automatic}
use Rattle.qrcode.proofs.QrCode.with_error_correction_level.Goals as goal

pub returns-in_err-bits : goal.returns-in_err-bits
returns-in_err-bits c =
    let known = c.in_err-bits.ensures in
    automatic c.args.ec_level c.args.bytes.now c.from_residual.result (search rules) (search rules) (λ n holds. let memory = known.accepts n holds in search rules) (search rules) (search rules)

pub returns : goal.returns
returns c =
    let known = c.in_ok-bits.ensures in
    let symbol = chosen_symbol c.args.ec_level c.args.bytes.now c.in_ok-bits.bits c.with_bits.result known.bits c.with_bits.ensures.version c.with_bits.ensures.symbol in
    automatic c.args.ec_level c.args.bytes.now c.with_bits.result c.with_bits.ensures.level symbol (λ n holds. search rules) (search rules) (search rules)
