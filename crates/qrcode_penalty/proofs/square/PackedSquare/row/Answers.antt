use Rattle.std.proofs.Common.{sym, subst, ap, arith}
use Rattle.std.proofs.lemmas.List.{length-map}
use Rattle.qrcode_penalty.specs.Rows.{PackedRows, FitsWidth}
use Rattle.qrcode_penalty.proofs.RowLists.{read}
use Rattle.qrcode_penalty.proofs.square.PackedSquare.row.Goals as goal

pub returns-clause-fits : goal.returns-clause-fits
returns-clause-fits g c =
    let bits = g.R.PackedRow.bits in
    let at = read bits c.self.inside.rows.now c.args.y c.index-rows-y.result (omega (arith, length-map c.self.inside.rows.now bits, ap (λ (s : PackedRows). s.width) c.self.view_is)) c.index-rows-y.is in
    subst (λ (s : PackedRows). FitsWidth s.width (bits c.index-rows-y.result)) c.self.view_is
    (subst (FitsWidth c.self.inside.width) (sym at) (c.self.invariant.fits c.args.y))
