use Rattle.qrcode_append.proofs.Parts.{symbol_of}
use Rattle.qrcode_append.proofs.drawing.part_symbol.Goals as goal

pub returns-clause-symbol : goal.returns-clause-symbol
returns-clause-symbol c =
    symbol_of c.args.wanted.manner c.args.wanted.version c.args.wanted.ec_level c.args.share.place c.args.share.last c.args.share.parity c.args.bytes.now c.in_ok-bits.bits c.with_bits.result
    c.requires.exists c.requires.normal c.requires.room c.in_ok-bits.ensures.bits c.with_bits.ensures.version c.with_bits.ensures.level c.with_bits.ensures.symbol
