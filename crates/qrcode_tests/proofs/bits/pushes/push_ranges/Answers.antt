use Rattle.std.proofs.Common.{length, arith, subst, Global}
use Rattle.std.specs.Iterator.{AlwaysYields}
use Rattle.std.specs.Vec.Iter.{into_iter_steps}
use Rattle.std.proofs.lemmas.Iterator.Adapters.{YieldsList-from_vec}
use Rattle.qrcode_bits.specs.Segments.{AreInside}
use Rattle.qrcode_bits.specs.declared.optimize.Segment.{Segment}
use Rattle.qrcode_bits.proofs.Given.{given_first, first_inside}
use Rattle.qrcode_tests.proofs.bits.pushes.push_ranges.Goals as goal
use Rattle.qrcode_tests.proofs.bits.pushes.push_ranges.Goals.{After-into_iter}

-- the iterator yields the segments of the list
gives : (c : After-into_iter) → AlwaysYields (into_iter_steps {X = Segment} {Z = Global}) (λ x. x) c.into_iter.result c.args.ranges.items
gives c = (YieldsList-from_vec c.args.ranges.items c.into_iter.ensures.rest (omega (arith, c.into_iter.ensures.len, c.args.ranges.ok.0))).runs

pub push_segments-requires-clause-inside : goal.push_segments-requires-clause-inside
push_segments-requires-clause-inside c = λ xs t yields.
    let k = (goal.at.push_segments-requires-clause-inside c).After-into_iter in
    let r = given_first into_iter_steps c.args.ranges.items c.into_iter.result t xs (gives k) yields in
    first_inside (length c.args.bytes.now) xs r.0 (subst (AreInside (length c.args.bytes.now)) r.1.0 c.requires.inside)
