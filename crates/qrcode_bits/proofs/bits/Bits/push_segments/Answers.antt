use Rattle.std.proofs.Common.{◌≤◌, List, [], ◌∷◌, ◌++◌, length}
use Rattle.std.specs.Iterator.{HoldsAlong, Yields}
use Rattle.std.proofs.iter.Next.{Yields-more}
use Rattle.qrcode_bits.specs.Refusals.{StopsAtLast}
use Rattle.qrcode_bits.specs.Segments.{AreInside}
use Rattle.qrcode_bits.specs.Written.{pieces_of}
use Rattle.qrcode_bits.specs.declared.optimize.Segment.{Segment}
use Rattle.qrcode_bits.proofs.Several.{last_inside, handed_on, pushes_segment, refuses_segment}
use Rattle.qrcode_bits.proofs.bits.Bits.push_segments.Goals as goal
use Rattle.qrcode_bits.proofs.bits.Bits.push_segments.Goals.{In-Some}

inside : (g : _) (c : In-Some g) → (c.in-Some.segment.begin ≤ c.in-Some.segment.end) × (c.in-Some.segment.end ≤ length c.args.bytes.now)
inside g c =
    let it = c.into_iter-segment-iterator in
    let xs = c.loop-segment.yielded in
    let x = c.in-Some.segment in
    let more = Yields-more g.I.Iterator.next_gives it.result xs c.loop-segment.segment-iterator x c.next.new.self c.loop-segment.yielded_by c.in-Some.ensures.steps in
    let inside : HoldsAlong g.I.Iterator.next_gives it.result (AreInside (length c.args.bytes.now)) = rw it.ensures.into_iter_gives c.requires.inside in
    last_inside (length c.args.bytes.now) xs x (inside (xs ++ x ∷ []) c.next.new.self more)

pub push_segment-requires-clause-ordered : goal.push_segment-requires-clause-ordered
push_segment-requires-clause-ordered g c = (inside g (goal.at.push_segment-requires-clause-ordered g c).In-Some).0

pub push_segment-requires-clause-inside : goal.push_segment-requires-clause-inside
push_segment-requires-clause-inside g c = (inside g (goal.at.push_segment-requires-clause-inside g c).In-Some).1

pub loop-segment-preserved : goal.loop-segment-preserved
loop-segment-preserved g c =
    let r = pushes_segment c.args.self.now.version c.args.self.now.bits c.args.bytes.now c.loop-segment.yielded c.in-Some.segment c.loop-segment.self c.push_segment.new.self tt
    (inside g (goal.at.loop-segment-preserved g c).In-Some) c.loop-segment.invariant.version c.loop-segment.invariant.pushed c.in_ok-push_segment.ensures.appends in
    record { version = r.0; pushed = r.1 }

pub returns-in_err-push_segment-clause-stopped : goal.returns-in_err-push_segment-clause-stopped
returns-in_err-push_segment-clause-stopped g c =
    let it = c.into_iter-segment-iterator in
    let bytes = c.args.bytes.now in
    let old = c.args.self.now in
    let xs = c.loop-segment.yielded in
    let x = c.in-Some.segment in
    let new = c.push_segment.new.self.bits in
    let e = c.in_err-push_segment.field-0.0 in
    let more = Yields-more g.I.Iterator.next_gives it.result xs c.loop-segment.segment-iterator x c.next.new.self c.loop-segment.yielded_by c.in-Some.ensures.steps in
    let yields : Yields g.I.Iterator.next_gives c.args.segments (xs ++ x ∷ []) c.next.new.self = rw it.ensures.into_iter_gives at more in
    let stop = refuses_segment old.version old.bits bytes xs x c.loop-segment.self c.push_segment.new.self e c.loop-segment.invariant.version c.loop-segment.invariant.pushed c.in_err-push_segment.ensures.appends in
    handed_on c.from_residual.result e
    (λ e. (given : List Segment) × ((rest : _) × (Yields g.I.Iterator.next_gives c.args.segments given rest × StopsAtLast old.version old.bits (pieces_of bytes given) e new)))
    c.from_residual.ensures
    (xs ++ x ∷ [], (c.next.new.self, (yields, stop)))
