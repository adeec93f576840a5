use Rattle.qrcode_types.specs.declared.types.QrError.TheVariants.{OutOfMemory}
use Rattle.qrcode_bits.proofs.Automatic.{holds_plain, plain_holds}
use Rattle.qrcode_bits.proofs.Given.{if_ok, if_err}
use Rattle.qrcode.proofs.Causes.{plain_cause, plain_symbol}
use Rattle.qrcode.proofs.Spelled.{can_spell, spelled_held}
use Rattle.qrcode.proofs.QrCode.with_version.Goals as goal

pub returns-clause-symbol : goal.returns-clause-symbol
returns-clause-symbol c = if_ok c.in_version.result (λ code made. plain_symbol c.args.version c.args.ec_level c.args.bytes.now code.modules made) c.in_version.ensures.symbol

pub returns-clause-accepts : goal.returns-clause-accepts
returns-clause-accepts c = λ holds. c.in_version.ensures.accepts (holds_plain c.args.version c.args.ec_level c.args.bytes.now holds)

pub returns-clause-holds : goal.returns-clause-holds
returns-clause-holds c = if_ok c.in_version.result (λ code holds. plain_holds c.args.version c.args.ec_level c.args.bytes.now holds) c.in_version.ensures.holds

pub returns-clause-causes : goal.returns-clause-causes
returns-clause-causes c = if_err c.in_version.result (λ e cause. plain_cause c.args.version c.args.ec_level c.args.bytes.now e cause) c.in_version.ensures.causes

pub returns-clause-accepts_spelled : goal.returns-clause-accepts_spelled
returns-clause-accepts_spelled c = λ can.
    c.in_version.ensures.accepts (holds_plain c.args.version c.args.ec_level c.args.bytes.now (spelled_held c.args.ec_level c.args.bytes.now c.args.version can))

pub returns-clause-only_spelled : goal.returns-clause-only_spelled
returns-clause-only_spelled c =
    if_ok c.in_version.result (λ code holds. can_spell c.args.ec_level c.args.bytes.now c.args.version (plain_holds c.args.version c.args.ec_level c.args.bytes.now holds)) c.in_version.ensures.holds
