use Rattle.std.proofs.Common.{subst, sym}
use Rattle.std.proofs.lemmas.Nat.{xor_lt}
use Rattle.qrcode_penalty.specs.Rows.{FitsWidth}
use Rattle.qrcode_penalty.proofs.columns.changes.Goals as goal

pub returns-clause-fits : goal.returns-clause-fits
returns-clause-fits g c =
    let n = c.args.square.now.width in
    subst (FitsWidth n) (sym c.xor.ensures) (xor_lt n _ _ c.row.ensures.fits c.row-2.ensures.fits)
