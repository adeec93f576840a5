use Rattle.std.proofs.Common.{◌≡◌, true, [], ◌∷◌, ◌++◌, refl, sym, ap, ◌∙◌, arith, subst, true≢false, inl, rules, Result}
use Rattle.std.proofs.lemmas.Bool.{and_parts, lt-ltb, ltb-true}
use Rattle.std.proofs.lemmas.Grind.{common_steps}
use Rattle.std.proofs.lemmas.List.Sums.{sum_by-append, sum_by-cons}
use Rattle.std.specs.Prelude.{IsTrue, IsOkUnless, slice_range}
use Rattle.qrcode_types.specs.declared.types.QrError.{QrError}
use Rattle.qrcode_types.specs.declared.types.QrError.TheVariants.{OutOfMemory}
use Rattle.qrcode_types.specs.Modes.{has_mode}
use Rattle.qrcode_types.specs.Characters.{can_write}
use Rattle.qrcode_bits.specs.Segments.{Tile, cost, total_cost}
use Rattle.qrcode_bits.specs.Cuts.{IsCutIn, NeedsCut}
use Rattle.qrcode_bits.specs.ModeHeaders.{more_than_any}
use Rattle.qrcode_bits.specs.ModeSets.{is_among}
use Rattle.qrcode_bits.specs.LeastBits.{costs_of, headers_of, IsFirst}
use Rattle.qrcode_bits.proofs.SegmentRanges.{tile-push, all-append}
use Rattle.qrcode_types.proofs.Writing.{are_bytes}
use Rattle.qrcode_bits.proofs.Needs.{cut_found}
use Rattle.qrcode_bits.proofs.VersionModes.{allows, header_at, header_is, header_tells}
use Rattle.qrcode_bits.proofs.LeastCuts.{HaveModes, AreAmong, AreWritable, bits_at_end, counted_least, cut_is_short, short_is_cut, cut_at_end}
use Rattle.qrcode_bits.proofs.optimize.least.searched_segments.Goals as goal
use Rattle.qrcode_bits.proofs.optimize.least.searched_segments.Goals.{Else-not-can_be_cut, After-loop-begin}

pub returns-then-not-can_be_cut-clause-refusals : goal.returns-then-not-can_be_cut-clause-refusals
returns-then-not-can_be_cut-clause-refusals c = record {
  no_cut = λ none. refl;
  accepts = λ ss cut.
      let few = cut_is_short c.args.modes c.args.version c.args.bytes.now c.requires.valid c.requires.length_at_most ss cut in
      absurd (true≢false (sym (lt-ltb _ _ few) ∙ sym c.can_be_cut.ensures ∙ c.if-not-can_be_cut.true));
  causes = inl refl;
}

-- the data can be cut, so that only memory is refused
refusals : (c : Else-not-can_be_cut) {A : Type 0} (r : Result A QrError) → IsOkUnless r OutOfMemory → NeedsCut (IsCutIn c.args.modes c.args.version c.args.bytes.now) r
refusals c r memory =
    let are = are_bytes c.args.bytes.now (λ k. omega (arith, c.type_inv.bytes k)) in
    let some = short_is_cut c.args.modes c.args.version c.args.bytes.now are (ltb-true _ _ (sym c.can_be_cut.ensures ∙ c.if-not-can_be_cut.false)) in
    cut_found (IsCutIn c.args.modes c.args.version c.args.bytes.now) some.0 r some.1 memory

pub returns-in_err-starts-clause-refusals : goal.returns-in_err-starts-clause-refusals
returns-in_err-starts-clause-refusals c = refusals (goal.at.returns-in_err-starts-clause-refusals c).Else-not-can_be_cut c.from_residual.result (search rules)

pub returns-in_err-segments-clause-refusals : goal.returns-in_err-segments-clause-refusals
returns-in_err-segments-clause-refusals c = refusals (goal.at.returns-in_err-segments-clause-refusals c).Else-not-can_be_cut c.from_residual-in_err-segments.result (search rules)

pub returns-in_err-push-clause-refusals : goal.returns-in_err-push-clause-refusals
returns-in_err-push-clause-refusals c = refusals (goal.at.returns-in_err-push-clause-refusals c).Else-not-can_be_cut c.from_residual-in_err-push.result (search rules)

pub loop-begin-preserved : goal.loop-begin-preserved
loop-begin-preserved c =
    let set = c.args.modes in
    let v = c.args.version in
    let bytes = c.args.bytes.now in
    let old = c.loop-begin.segments.items in
    let s = c.first_segment-segment.result in
    let k = subst (λ h. IsFirst h bytes c.loop-begin.begin s) c.of-headers.ensures.value c.first_segment-segment.ensures in
    let pushed : c.push.new.self.items ≡ old ++ s ∷ [] = grind (arith, common_steps) in
    let few = ltb-true (costs_of (headers_of set v) bytes).start.bits more_than_any (sym c.can_be_cut.ensures ∙ c.if-not-can_be_cut.false) in
    let has : allows set v s.mode ≡ true = header_tells set v s.mode (omega (arith, k.adds, header_at set v s.mode, few, c.loop-begin.invariant.bits)) in
    let parts = and_parts (has_mode v s.mode) (is_among set s.mode) has in
    record {
      inside = k.inside;
      tiles = subst (λ ss. Tile 0 ss s.end) (sym pushed) (tile-push 0 old s (subst (Tile 0 old) (sym k.begins) c.loop-begin.invariant.tiles) k.nonempty);
      modes = subst (HaveModes v) (sym pushed) (all-append (λ s. IsTrue (has_mode v s.mode)) old (s ∷ []) c.loop-begin.invariant.modes (parts.0, tt));
      among = subst (AreAmong set) (sym pushed) (all-append (λ s. IsTrue (is_among set s.mode)) old (s ∷ []) c.loop-begin.invariant.among (parts.1, tt));
      writable = subst (AreWritable bytes) (sym pushed) (all-append (λ s. IsTrue (can_write s.mode (slice_range bytes s.begin s.end))) old (s ∷ []) c.loop-begin.invariant.writable (k.writable, tt));
      bits = omega (
        arith,
        ap (total_cost v) pushed,
        sum_by-append (cost v) old (s ∷ []),
        sum_by-cons (cost v) s [],
        header_at set v s.mode ∙ header_is set v s.mode has,
        k.adds,
        c.loop-begin.invariant.bits,
      );
    }

reached : (c : After-loop-begin) → IsCutIn c.args.modes c.args.version c.args.bytes.now c.loop-begin.segments.items
reached c =
    let known = c.loop-begin.invariant in
    cut_at_end c.args.modes c.args.version c.args.bytes.now c.loop-begin.begin c.loop-begin.segments.items (omega arith) known.tiles known.modes known.among known.writable

pub returns-clause-least : goal.returns-clause-least
returns-clause-least c =
    let set = c.args.modes in
    let v = c.args.version in
    let bytes = c.args.bytes.now in
    record {
      reached = reached (goal.at.returns-clause-least c).After-loop-begin;
      least = λ others cut. omega (arith, counted_least set v bytes others cut, bits_at_end set v bytes c.loop-begin.begin (omega arith), c.loop-begin.invariant.bits);
    }
