use Rattle.std.proofs.Common.{ℕ, ◌+◌, ◌*◌, ◌^◌, bit_and, ap, sym, ◌∙◌, arith}
use Rattle.std.proofs.lemmas.Nat.{and_block}
use Rattle.qrcode_penalty.proofs.row.LongerRowPackedRow.and.Goals as goal

pub returns : goal.returns
returns g c =
    let a = c.args.self in
    let b = c.args.other in
    ap (λ h. h * 2 ^ 64 + bit_and a.low b.low) c.and.ensures
    ∙ sym (and_block 64 (g.R.PackedRow.bits a.high) (g.R.PackedRow.bits b.high) a.low b.low (omega arith) (omega arith))
