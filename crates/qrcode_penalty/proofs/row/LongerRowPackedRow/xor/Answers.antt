use Rattle.std.proofs.Common.{ℕ, ◌+◌, ◌*◌, ◌^◌, bit_xor, ap, sym, ◌∙◌, arith}
use Rattle.std.proofs.lemmas.Nat.{xor_block}
use Rattle.qrcode_penalty.proofs.row.LongerRowPackedRow.xor.Goals as goal

pub returns : goal.returns
returns g c =
    let a = c.args.self in
    let b = c.args.other in
    ap (λ h. h * 2 ^ 64 + bit_xor a.low b.low) c.xor.ensures
    ∙ sym (xor_block 64 (g.R.PackedRow.bits a.high) (g.R.PackedRow.bits b.high) a.low b.low (omega arith) (omega arith))
