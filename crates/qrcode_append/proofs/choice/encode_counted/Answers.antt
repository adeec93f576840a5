use Rattle.std.proofs.Common.{ℕ}
use Rattle.qrcode_append.proofs.Choices.{counted_of, least_held, none_held}
use Rattle.qrcode_append.proofs.Parts.{pair_ok}
use Rattle.qrcode_append.proofs.choice.encode_counted.Goals as goal

pub returns-in-Some-clause-symbols : goal.returns-in-Some-clause-symbols
returns-in-Some-clause-symbols c =
    pair_ok c.symbols.result
    (λ codes is made. counted_of c.args.manner c.args.versions c.args.ec_level c.args.bytes.now c.args.count c.in-Some.number codes.items
    (least_held c.args.manner c.args.versions c.args.ec_level c.args.bytes.now c.args.count c.in-Some.number c.in_ok-number.field-0 c.in-Some.is c.in_ok-number.ensures.value) is made)
    c.symbols.ensures.count c.symbols.ensures.symbols
