use Rattle.std.proofs.Common.{ℕ, ◌+◌, ◌*◌, ◌^◌, bit_or, ap, sym, ◌∙◌, arith}
use Rattle.std.proofs.lemmas.Nat.{or_block}
use Rattle.qrcode_penalty.proofs.row.LongerRowPackedRow.or.Goals as goal

pub returns : goal.returns
returns g c =
    let a = c.args.self in
    let b = c.args.other in
    ap (λ h. h * 2 ^ 64 + bit_or a.low b.low) c.or.ensures
    ∙ sym (or_block 64 (g.R.PackedRow.bits a.high) (g.R.PackedRow.bits b.high) a.low b.low (omega arith) (omega arith))
