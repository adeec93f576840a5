use Rattle.std.proofs.Common.{refl, sym, ◌∙◌}
use Rattle.qrcode_append.proofs.Shares.{one_found, two_at}
use Rattle.qrcode_append.proofs.joining.part_at.Goals as goal

pub returns-then-is_some-clause-causes : goal.returns-then-is_some-clause-causes
returns-then-is_some-clause-causes c =
    let one = one_found _ _ (sym c.is_some.ensures ∙ c.if-is_some.true) c.loop-part.invariant in
    (refl, two_at c.args.parts.now c.loop-part.part-index c.args.place _ c.loop-part-test.true one c.if-part-place.true)
