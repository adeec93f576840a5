use Rattle.std.proofs.Common.{◌≡◌, ◌+◌, ◌<◌, ◌≤◌, ℕ, length-append, ◌++◌, [], ◌∷◌, List, take, length, get_or, sym, ap, ap₂, subst, ◌∙◌, arith}
use Rattle.std.specs.Prelude.{slice_range}
use Rattle.std.proofs.lemmas.Grind.{common_steps}
use Rattle.std.proofs.lemmas.List.{take_all, take_more}
use Rattle.qrcode_types.specs.declared.types.Mode.TheVariants.{Numeric}
use Rattle.qrcode_bits.specs.declared.optimize.Segment.{Segment}
use Rattle.qrcode_bits.proofs.SegmentRanges.{length-range}
use Rattle.qrcode_gs1.specs.symbol.Characters.{written_characters}
use Rattle.qrcode_gs1.specs.symbol.Cuts.{AreCharacters}
use Rattle.qrcode_gs1.proofs.Pieces.{characters_more, characters_some, tile_at}
use Rattle.qrcode_gs1.proofs.symbol.characters.Characters.of.Goals as goal
use Rattle.qrcode_gs1.proofs.symbol.characters.Characters.of.Goals.{After-len-begin}

-- the characters of no segments
abbrev none : Segment
none = record { mode = Numeric; begin = 0; end = 0 }

-- a segment is a range of the data
inside : (c : After-len-begin) →
    let s = get_or c.args.segments.now c.loop-segment.segment-index none in
    (s.begin < s.end) × (s.end ≤ length c.args.bytes.now)
inside c = tile_at 0 c.args.segments.now (length c.args.bytes.now) c.loop-segment.segment-index none c.requires.tiles c.loop-segment-test.true

pub slice_bounds-range-count : goal.slice_bounds-range-count
slice_bounds-range-count c = omega (arith, (inside (goal.at.slice_bounds-range-count c).After-len-begin).0)

pub slice_bounds-range-end : goal.slice_bounds-range-end
slice_bounds-range-end c = (inside (goal.at.slice_bounds-range-end c).After-len-begin).1

pub loop-segment-preserved : goal.loop-segment-preserved
loop-segment-preserved c =
    let bytes = c.args.bytes.now in
    let ss = c.args.segments.now in
    let i = c.loop-segment.segment-index in
    let s : Segment = get_or ss i none in
    let w = c.loop-segment.written.items in
    let ranges = c.loop-segment.ranges.items in
    let chunk = written_characters s.mode (slice_range bytes s.begin s.end) in
    let range : Segment = record { mode = s.mode; begin = length w; end = length w + length chunk } in
    let at = inside (goal.at.loop-segment-preserved c).After-len-begin in
    let some : 0 < length chunk = omega (arith, characters_some s.mode (slice_range bytes s.begin s.end), length-range bytes s.begin s.end (omega (arith, at.0)) at.1, at.0) in
    let written : c.push_characters.new.written.items ≡ w ++ chunk = c.in_ok-push_characters.ensures.appends in
    let begin : c.len-begin.result ≡ length w = omega (arith, c.len-begin.ensures, c.loop-segment.written.ok.0) in
    let end : c.len.result ≡ length w + length chunk = omega (arith, c.len.ensures, c.push_characters.new.written.ok.0, ap length written, length-append w chunk) in
    let whole : ℕ → ℕ → List Segment = λ a b. ranges ++ record { mode = s.mode; begin = a; end = b } ∷ [] in
    let same : c.push.new.self.items ≡ whole c.len-begin.result c.len.result = grind (arith, common_steps) in
    let pushed : c.push.new.self.items ≡ ranges ++ range ∷ [] = same ∙ ap₂ whole begin end in
    subst (λ w. AreCharacters bytes (take (i + 1) ss) w c.push.new.self.items) (sym written)
    (subst (AreCharacters bytes (take (i + 1) ss) (w ++ chunk)) (sym pushed)
    (subst (λ xs. AreCharacters bytes xs (w ++ chunk) (ranges ++ range ∷ [])) (sym (take_more ss i none c.loop-segment-test.true))
    (characters_more bytes (take i ss) s w ranges c.loop-segment.invariant some)))

pub returns-clause-value : goal.returns-clause-value
returns-clause-value c =
    subst (λ ss. AreCharacters c.args.bytes.now ss c.loop-segment.written.items c.loop-segment.ranges.items)
    (take_all c.loop-segment.segment-index c.args.segments.now (omega (arith, c.loop-segment-test.false))) c.loop-segment.invariant
