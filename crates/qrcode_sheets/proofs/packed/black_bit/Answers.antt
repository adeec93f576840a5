use Rattle.std.proofs.Common.{◌∙◌, ap, arith, if◌then◌else◌}
use Rattle.qrcode_sheets.proofs.PackedBits.{bit_inside, bit_past}
use Rattle.qrcode_sheets.proofs.packed.black_bit.Goals as goal

pub returns-then-column-marks-clause-value : goal.returns-then-column-marks-clause-value
returns-then-column-marks-clause-value c =
    c.bit_of.ensures
    ∙ ap (λ b. if b then 1 else 0) c.ink.ensures
    ∙ bit_inside c.args.marked c.args.other c.args.across c.args.marks.now c.args.x (omega arith) (omega arith)

pub returns-else-column-marks-clause-value : goal.returns-else-column-marks-clause-value
returns-else-column-marks-clause-value c = bit_past c.args.marked c.args.other c.args.across c.args.marks.now c.args.x (omega arith) (omega (arith, c.if-column-marks.false))
