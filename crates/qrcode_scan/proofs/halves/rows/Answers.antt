use Rattle.std.proofs.Common.{◌≡◌, ◌≤◌, ◌+◌, ◌∷◌, List, drop, inr, length, refl, sym, subst, arith, rules}
use Rattle.std.proofs.lemmas.List.{drop_more}
use Rattle.qrcode_scan.specs.Halves.{rows_from}
use Rattle.qrcode_scan.specs.declared.halves.Half.{Half}
use Rattle.qrcode_scan.specs.declared.halves.Half.TheVariants.{End}
use Rattle.qrcode_scan.proofs.HalfBlocks.{line_room, too_many}
use Rattle.qrcode_scan.proofs.halves.rows.Goals as goal

pub returns-then-len-across-clause-causes : goal.returns-then-len-across-clause-causes
returns-then-len-across-clause-causes c =
    let across = c.args.across in
    let at = c.loop-half in
    let halves = c.args.halves.now in
    let upper = at.upper.items in
    let lower = at.lower.items in
    let is : drop at.half-index halves ≡ End ∷ drop (at.half-index + 1) halves = search (drop_more, rules) in
    let room : across ≤ length (rows_from across upper lower (drop at.half-index halves)) =
    subst (λ (hs : List Half). across ≤ length (rows_from across upper lower hs)) (sym is) (line_room across upper lower (drop (at.half-index + 1) halves))
    in
    inr (refl, too_many across at.marks.items (rows_from across upper lower (drop at.half-index halves)) _ at.invariant room (omega arith))
