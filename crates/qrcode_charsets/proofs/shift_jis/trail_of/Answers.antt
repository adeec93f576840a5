use Rattle.std.proofs.Common.{arith, ◌-◌, sym, ◌∙◌}
use Rattle.qrcode_charsets.proofs.PairTable.{pair_of, cell_of}
use Rattle.qrcode_charsets.proofs.shift_jis.trail_of.Goals as goal

pub returns : goal.returns
returns c = λ d lead is.
    let p = pair_of c.args.lead d c.args.character is in
    let f = cell_of c.args.lead (d - 0x40) (λ z. p.some (sym p.cell ∙ z)) in
    c.loop-place.invariant (d - 0x40) (omega (arith, f.place)) p.cell
