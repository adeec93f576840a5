use Rattle.qrcode_reader.proofs.NoHeader.{no_eci, great_number}
use Rattle.qrcode_reader.proofs.spell.headers.eci.Goals as goal

pub returns-then-number-ge1000000-clause-none : goal.returns-then-number-ge1000000-clause-none
returns-then-number-ge1000000-clause-none c =
    let s = c.in_ok-number.ensures.some in
    no_eci c.args.bits.now c.in_default.ensures.none c.in_default-prefixed.ensures.none
    (great_number c.args.bits.now s.0 c.in_ok-number.rest.now c.in_ok-number.number s.1 s.2 c.if-number-ge1000000.true)
