use Rattle.std.proofs.Common.{sym, ◌∙◌}
use Rattle.qrcode_bits.proofs.ByteCuts.{bytes_least}
use Rattle.qrcode_bits.proofs.DigitCuts.{digits_least, some_bytes}
use Rattle.qrcode_bits.proofs.optimize.single.single_mode.Goals as goal

pub returns-then-are_digits : goal.returns-then-are_digits
returns-then-are_digits c =
    let some = some_bytes c.args.bytes.now (sym c.is_empty.ensures ∙ c.if-not-is_empty.true) in
    digits_least c.args.modes c.args.version c.args.bytes.now c.requires.valid c.if-modes.true some (sym c.are_digits.ensures ∙ c.if-are_digits.true)

pub returns-then-is_sparse : goal.returns-then-is_sparse
returns-then-is_sparse c =
    let normal = sym c.is_micro.ensures ∙ c.if-not-is_micro.true in
    bytes_least c.args.modes c.args.version c.args.bytes.now c.requires.valid c.if-modes-2.true normal c.if-bytes-gt3.true (c.is_sparse.ensures c.if-is_sparse.true)
