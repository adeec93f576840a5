use Rattle.std.proofs.Common.{◌-◌, ◌%◌, ap₂, ◌∙◌, get_or, bit_xor, arith}
use Rattle.qrcode_ec.proofs.Multiples.{product_parted}
use Rattle.qrcode_ec.proofs.division.next_multiple.Goals as goal

pub returns : goal.returns
returns c = λ j less.
    let k = c.args.k in
    let rows = c.requires.rows in
    c.sum.ensures.value j less
    ∙ ap₂ bit_xor (rows.at (k - k % 4) j (omega arith) less) (rows.at (k % 4) j (omega arith) less)
    ∙ product_parted c.args.unit k (get_or c.args.generator.now j 0) c.requires.unit c.requires.at_most
