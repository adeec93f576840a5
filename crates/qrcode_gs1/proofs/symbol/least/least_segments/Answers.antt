use Rattle.std.proofs.Common.{◌≡◌, ◌+◌, ◌++◌, [], ◌∷◌, length, sym, ap, subst, ◌∙◌, arith}
use Rattle.std.specs.Prelude.{IsTrue, slice_range}
use Rattle.std.proofs.lemmas.Grind.{common_steps}
use Rattle.std.proofs.lemmas.List.{drop_all, get_or_read_under}
use Rattle.qrcode_types.proofs.Writing.{are_bytes}
use Rattle.qrcode_bits.specs.Segments.{Tile}
use Rattle.qrcode_bits.specs.declared.optimize.Segment.{Segment}
use Rattle.qrcode_bits.proofs.SegmentRanges.{tile-push, all-append}
use Rattle.qrcode_gs1.specs.symbol.Characters.{can_stand}
use Rattle.qrcode_gs1.specs.symbol.Cuts.{marked_cost}
use Rattle.qrcode_gs1.specs.symbol.Fewest.{headers_of, AreStarts, past_end}
use Rattle.qrcode_gs1.proofs.Bounds.{fewest}
use Rattle.qrcode_gs1.proofs.Cuts.{AreStanding, segment_costs, cost_last, least_is}
use Rattle.qrcode_gs1.proofs.Reached.{IsFirst, first_at}
use Rattle.qrcode_gs1.proofs.symbol.least.least_segments.Goals as goal
use Rattle.qrcode_gs1.proofs.symbol.least.least_segments.Goals.{After-index-start}

-- the segment of a start
first : (c : After-index-start) → IsFirst (headers_of c.args.version) c.args.bytes.now c.loop-begin.begin c.index-start.result.now
first c =
    let bytes = c.args.bytes.now in
    let begin = c.loop-begin.begin in
    let are = are_bytes bytes (λ k. omega (arith, c.type_inv.bytes k)) in
    let starts = subst (λ h. AreStarts h bytes c.in_ok-starts.starts.items) c.of.ensures c.in_ok-starts.ensures in
    subst (IsFirst (headers_of c.args.version) bytes begin) (sym (get_or_read_under c.in_ok-starts.starts.items begin (length bytes) c.index-start.result.now past_end c.index-start.ensures c.loop-begin-test.true (sym starts.count) ∙ starts.least begin c.loop-begin-test.true)) (first_at (headers_of c.args.version) bytes begin are c.loop-begin-test.true)

pub overflow_add-end : goal.overflow_add-end
overflow_add-end c = omega (arith, (first (goal.at.overflow_add-end c).After-index-start).inside)

pub loop-begin-smaller : goal.loop-begin-smaller
loop-begin-smaller c =
    let k = first (goal.at.loop-begin-smaller c).After-index-start in
    omega (arith, k.some, k.inside)

pub loop-begin-preserved : goal.loop-begin-preserved
loop-begin-preserved c =
    let v = c.args.version in
    let bytes = c.args.bytes.now in
    let old = c.loop-begin.segments.items in
    let begin = c.loop-begin.begin in
    let start = c.index-start.result.now in
    let s : Segment = record { mode = start.mode; begin = begin; end = begin + start.taken } in
    let k = first (goal.at.loop-begin-preserved c).After-index-start in
    let pushed : c.push.new.self.items ≡ old ++ s ∷ [] = grind (arith, common_steps) in
    record {
      inside = k.inside;
      tiles = subst (λ ss. Tile 0 ss s.end) (sym pushed) (tile-push 0 old s c.loop-begin.invariant.tiles (omega (arith, k.some)));
      standing = subst (AreStanding bytes) (sym pushed) (all-append (λ s. IsTrue (can_stand s.mode (slice_range bytes s.begin s.end))) old (s ∷ []) c.loop-begin.invariant.standing (k.stands, tt));
      bits = omega (arith, ap (marked_cost v bytes) pushed, cost_last v bytes old s, segment_costs v bytes s (omega (arith, k.some)) k.inside k.stands, k.adds, c.loop-begin.invariant.bits);
    }

pub returns-clause-least : goal.returns-clause-least
returns-clause-least c =
    let v = c.args.version in
    let bytes = c.args.bytes.now in
    let known = c.loop-begin.invariant in
    let end : c.loop-begin.begin ≡ length bytes = omega arith in
    least_is v bytes c.loop-begin.segments.items (record { tiles = subst (Tile 0 c.loop-begin.segments.items) end known.tiles; standing = known.standing })
    (omega (arith, known.bits, ap (fewest (headers_of v)) (drop_all c.loop-begin.begin bytes (omega (arith, end)))))
