use Rattle.std.proofs.Common.{ℕ, ◌+◌, ◌-◌, ◌*◌, ◌^◌, ap₂, ◌∙◌, arith}
use Rattle.qrcode_penalty.proofs.PairWords.{or_over, longer_over, high_fits}
use Rattle.qrcode_penalty.proofs.row.LongerRowPackedRow.up_over.Goals as goal

pub up_over-requires-clause-fits : goal.up_over-requires-clause-fits
up_over-requires-clause-fits g c = high_fits (g.R.PackedRow.bits c.args.self.high) c.args.self.low c.args.count g.R.PackedRow.room c.requires.fits

pub returns : goal.returns
returns g c =
    let a = c.args.self in
    let b = c.args.below in
    let j = c.args.count in
    ap₂ (λ (h l : ℕ). h * 2 ^ 64 + l) c.up_over.ensures (or_over a.low b j (64 - j) (omega arith) (omega arith))
    ∙ longer_over (g.R.PackedRow.bits a.high) a.low b j (64 - j) (omega arith)
