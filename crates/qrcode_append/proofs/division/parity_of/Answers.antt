use Rattle.std.proofs.Common.{◌-◌, bit_xor, get_or, ap, ◌∙◌, arith}
use Rattle.qrcode_append.proofs.Borders.{parity_back}
use Rattle.qrcode_append.proofs.division.parity_of.Goals as goal

pub loop-i-preserved : goal.loop-i-preserved
loop-i-preserved c =
    ap (λ rest. bit_xor (get_or c.args.bytes.now (c.loop-i.i - 1) 0) rest) c.loop-i.invariant ∙ parity_back c.args.bytes.now c.loop-i.i (omega arith) (omega arith)
