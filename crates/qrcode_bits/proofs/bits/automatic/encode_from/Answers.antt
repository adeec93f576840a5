use Rattle.qrcode_bits.proofs.Needs.{version_handed_on, version_found}
use Rattle.qrcode_bits.proofs.bits.automatic.encode_from.Goals as goal

pub returns-in_err-chosen-clause-refusals : goal.returns-in_err-chosen-clause-refusals
returns-in_err-chosen-clause-refusals c =
    version_handed_on c.args.manner c.args.from c.args.ec_level c.args.bytes.now c.in_err-chosen.field-0.0 c.from_residual.result c.in_err-chosen.ensures.refusals c.from_residual.ensures

pub returns-clause-refusals : goal.returns-clause-refusals
returns-clause-refusals c =
    version_found c.args.manner c.args.from c.args.ec_level c.args.bytes.now c.in_ok-chosen.chosen c.encode_chosen.result c.in_ok-chosen.ensures.refusals c.encode_chosen.ensures.memory
