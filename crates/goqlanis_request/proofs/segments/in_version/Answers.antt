use Rattle.std.proofs.Common.{◌≡◌, ◌⊎◌, Some, inl, inr, refl, sym, subst, arith}
use Rattle.std.proofs.lemmas.Result.{IfOk-weaker}
use Rattle.qrcode_types.specs.declared.types.QrError.TheVariants.{OutOfMemory}
use Rattle.qrcode_bits.specs.BitList.{BitList}
use Rattle.qrcode_bits.proofs.Several.{handed_on}
use Rattle.goqlanis_request.specs.Segments.{refusal_in}
use Rattle.goqlanis_request.proofs.Segmented.{at_end, ended, fails, pushed, refused_by, symbol_of_segments, taken_by, LeavesRest}
use Rattle.goqlanis_request.proofs.segments.in_version.Goals as goal

pub loop-segment-init : goal.loop-segment-init
loop-segment-init c = let all = c.args.segments.now in subst (λ (b : BitList). LeavesRest c.args.version all b all) (sym c.new-bits.ensures.empty) (refl, (refl, refl))

pub loop-segment-preserved : goal.loop-segment-preserved
loop-segment-preserved c =
    let at = c.loop-segment in
    pushed c.args.version c.args.segments.now at.segment-index _ at.bits c.loop-segment-test.true at.invariant c.push.new.bits c.in_ok-push.ensures.changed
    (taken_by _ _ _ _ _ c.in_ok-push.ensures)

pub returns-in_err-push-clause-causes : goal.returns-in_err-push-clause-causes
returns-in_err-push-clause-causes c =
    let at = c.loop-segment in
    let v = c.args.version in
    let segments = c.args.segments.now in
    let told = c.from_residual in
    handed_on told.result _ (λ e. (e ≡ OutOfMemory) ⊎ (refusal_in v c.args.level segments ≡ Some e)) told.ensures (elim (refused_by _ _ _ _ _ c.in_err-push.ensures) [
      | inl memory ↦ inl memory
      | inr some ↦ inr (fails v segments at.segment-index _ at.bits c.loop-segment-test.true at.invariant c.args.level _ some)
    ])

pub returns-in_err-push_terminator-clause-causes : goal.returns-in_err-push_terminator-clause-causes
returns-in_err-push_terminator-clause-causes c =
    let l = c.args.level in
    let told = c.from_residual-in_err-push_terminator in
    handed_on told.result _ (λ e. (e ≡ OutOfMemory) ⊎ (refusal_in c.args.version l c.args.segments.now ≡ Some e)) told.ensures (elim (refused_by _ _ _ _ _ c.in_err-push_terminator.ensures.ends) [
      | inl memory ↦ inl memory
      | inr some ↦ inr (at_end c.args.version l c.args.segments.now c.loop-segment.bits (ended c.args.version c.args.segments.now c.loop-segment.segment-index c.loop-segment.bits (omega (arith, c.loop-segment-test.false)) c.loop-segment.invariant) _ some)
    ])

pub returns-clause-holds : goal.returns-clause-holds
returns-clause-holds c =
    let none = at_end c.args.version c.args.level c.args.segments.now c.loop-segment.bits (ended c.args.version c.args.segments.now c.loop-segment.segment-index c.loop-segment.bits (omega (arith, c.loop-segment-test.false)) c.loop-segment.invariant) _ (taken_by _ _ _ _ _ c.in_ok-push_terminator.ensures.ends) in
    IfOk-weaker c.with_bits.result _ _ (λ code level. none) c.with_bits.ensures.level

pub returns-clause-symbol : goal.returns-clause-symbol
returns-clause-symbol c =
    let ends = c.in_ok-push_terminator.ensures in
    let made = c.with_bits.ensures in
    symbol_of_segments c.args.version c.args.level c.args.segments.now c.loop-segment.bits (ended c.args.version c.args.segments.now c.loop-segment.segment-index c.loop-segment.bits (omega (arith, c.loop-segment-test.false)) c.loop-segment.invariant) c.push_terminator.new.self c.with_bits.result ends.ends.changed made.version made.level made.symbol ends.spelled
