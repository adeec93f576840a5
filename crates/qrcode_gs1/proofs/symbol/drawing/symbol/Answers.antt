use Rattle.std.proofs.Common.{refl, arith, inr}
use Rattle.qrcode_bits.proofs.Several.{handed_on}
use Rattle.qrcode_gs1.specs.symbol.Symbols.{IsMarkedRefused}
use Rattle.qrcode_gs1.proofs.Pieces.{held_few}
use Rattle.qrcode_gs1.proofs.Readings.{symbol_of}
use Rattle.qrcode_gs1.proofs.symbol.drawing.symbol.Goals as goal

pub returns-then-bytes-gt-DATA_LIMIT-clause-accepts : goal.returns-then-bytes-gt-DATA_LIMIT-clause-accepts
returns-then-bytes-gt-DATA_LIMIT-clause-accepts c = λ number above holds. absurd (omega (arith, held_few c.args.position c.args.ec_level c.args.bytes.now number holds))

pub returns-then-bytes-gt-DATA_LIMIT-clause-causes : goal.returns-then-bytes-gt-DATA_LIMIT-clause-causes
returns-then-bytes-gt-DATA_LIMIT-clause-causes c = inr (refl, λ number above holds. omega (arith, held_few c.args.position c.args.ec_level c.args.bytes.now number holds))

pub returns-in_err-number-clause-accepts : goal.returns-in_err-number-clause-accepts
returns-in_err-number-clause-accepts c = λ number above holds. absurd (c.in_err-number.ensures.causes.1 number above holds)

pub returns-in_err-number-clause-causes : goal.returns-in_err-number-clause-causes
returns-in_err-number-clause-causes c =
    handed_on c.from_residual.result c.in_err-number.field-0.0 (λ e. IsMarkedRefused c.args.from c.args.position c.args.ec_level c.args.bytes.now e) c.from_residual.ensures
    (inr c.in_err-number.ensures.causes)

pub returns-clause-symbol : goal.returns-clause-symbol
returns-clause-symbol c =
    let n = c.in_ok-number.number in
    symbol_of c.args.from c.args.position n c.args.ec_level c.args.bytes.now c.in_ok-bits.bits c.with_bits.result c.in_ok-number.ensures.at_least c.in_ok-number.ensures.holds
    c.in_ok-number.ensures.least c.in_ok-bits.ensures.bits c.with_bits.ensures.version c.with_bits.ensures.level c.with_bits.ensures.symbol
