use Rattle.std.proofs.Common.{◌≡◌}
use Rattle.std.specs.Prelude.{chars}
use Rattle.qrcode_types.specs.declared.types.QrError.TheVariants.{OutOfMemory}
use Rattle.qrcode_bits.proofs.Given.{if_err}
use Rattle.qrcode_bits.proofs.Several.{handed_on}
use Rattle.qrcode_charsets.proofs.Chosen.{has_room, made_in}
use Rattle.qrcode_charsets.proofs.Given.{memory_ran_out}
use Rattle.qrcode_charsets.proofs.Lists.{can_room}
use Rattle.qrcode_charsets.proofs.shortest.shortest_in.Goals as goal

pub symbol_of-requires-clause-room : goal.symbol_of-requires-clause-room
symbol_of-requires-clause-room c =
    has_room c.args.sets.now c.args.version c.args.ec_level (chars c.args.text.now) c.in_ok-measured.measured c.in_ok-measured.ensures.fitting

pub returns-clause-symbol : goal.returns-clause-symbol
returns-clause-symbol c =
    made_in c.args.sets.now c.args.version c.args.ec_level (chars c.args.text.now) c.in_ok-measured.measured c.in_ok-measured.ensures.fitting
    c.symbol_of.result c.symbol_of.ensures.drawn

pub returns-in_err-measured-clause-accepts : goal.returns-in_err-measured-clause-accepts
returns-in_err-measured-clause-accepts c = λ can.
    let room = can_room c.args.sets.now c.args.version c.args.ec_level (chars c.args.text.now) can in
    handed_on c.from_residual.result c.in_err-measured.field-0.0 (λ e. e ≡ OutOfMemory) c.from_residual.ensures (c.in_err-measured.ensures.accepts room)

pub returns-clause-causes : goal.returns-clause-causes
returns-clause-causes c =
    if_err c.symbol_of.result
    (memory_ran_out c.args.sets.now c.args.version c.args.ec_level c.args.text.now c.in_ok-measured.measured c.in_ok-measured.ensures.fitting c.utf8.text)
    c.symbol_of.ensures.memory
