use Rattle.std.proofs.Common.{arith}
use Rattle.qrcode_bits.proofs.Needs.{version_handed_on, version_found}
use Rattle.qrcode.proofs.TextSymbols.{boosted_as}
use Rattle.qrcode.proofs.QrCode.at_least_boosted.Goals as goal

pub returns-in_err-bits-clause-refusals : goal.returns-in_err-bits-clause-refusals
returns-in_err-bits-clause-refusals c =
    version_handed_on c.args.manner c.args.from c.args.ec_level c.args.bytes.now c.in_err-bits.field-0.0 c.from_residual.result c.in_err-bits.ensures.refusals c.from_residual.ensures

pub returns-clause-symbol : goal.returns-clause-symbol
returns-clause-symbol c =
    boosted_as c.args.manner c.args.from c.args.ec_level c.in_ok-bits.highest c.args.bytes.now c.in_ok-bits.bits c.with_bits.result
    c.in_ok-bits.ensures.bits c.with_bits.ensures.version c.with_bits.ensures.level c.with_bits.ensures.symbol

pub returns-clause-refusals : goal.returns-clause-refusals
returns-clause-refusals c =
    let written = c.in_ok-bits.ensures.bits.written in
    version_found c.args.manner c.args.from c.args.ec_level c.args.bytes.now (c.in_ok-bits.bits, c.in_ok-bits.highest) c.with_bits.result c.in_ok-bits.ensures.refusals
    (c.with_bits.ensures.accepts written.holds.exists (omega (arith, written.full)))
