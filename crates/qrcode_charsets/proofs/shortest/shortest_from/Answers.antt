use Rattle.std.specs.Prelude.{chars}
use Rattle.qrcode_charsets.proofs.Causes.{needs_handed_on, needs_found}
use Rattle.qrcode_charsets.proofs.Chosen.{has_room, has_set, made_from}
use Rattle.qrcode_charsets.proofs.shortest.shortest_from.Goals as goal

pub returns-in_err-version-clause-refusals : goal.returns-in_err-version-clause-refusals
returns-in_err-version-clause-refusals c =
    needs_handed_on c.args.sets.now c.args.from c.args.ec_level c.args.text.now c.in_err-version.field-0.0 c.from_residual.result c.in_err-version.ensures.refusals c.from_residual.ensures

pub returns-clause-refusals : goal.returns-clause-refusals
returns-clause-refusals c =
    let v = c.in_ok-version.version in
    let m = c.in_ok-version.measured in
    let has = has_set c.args.sets.now v c.args.ec_level (chars c.args.text.now) m c.in_ok-version.ensures.chosen.fitting in
    needs_found c.args.sets.now c.args.from c.args.ec_level c.args.text.now (v, m) c.symbol_of.result c.in_ok-version.ensures.refusals has c.symbol_of.ensures.memory

pub symbol_of-requires-clause-room : goal.symbol_of-requires-clause-room
symbol_of-requires-clause-room c =
    let v = c.in_ok-version.version in
    let m = c.in_ok-version.measured in
    has_room c.args.sets.now v c.args.ec_level (chars c.args.text.now) m c.in_ok-version.ensures.chosen.fitting

pub returns-clause-symbol : goal.returns-clause-symbol
returns-clause-symbol c =
    let v = c.in_ok-version.version in
    let m = c.in_ok-version.measured in
    made_from c.args.sets.now c.args.from c.args.ec_level (chars c.args.text.now) v m c.in_ok-version.ensures.chosen c.symbol_of.result c.symbol_of.ensures.drawn
