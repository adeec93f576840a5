use Rattle.std.proofs.Common.{length, refl, ap, subst, ◌∙◌}
use Rattle.qrcode_bits.specs.BitList.{BitList}
use Rattle.goqlanis_buffers.specs.Answers.{IsSegmentsCause}
use Rattle.goqlanis_buffers.specs.Segments.{written_segments, AreTaken}
use Rattle.goqlanis_buffers.proofs.Ended.{ended}
use Rattle.goqlanis_buffers.proofs.Fields.{handed_on}
use Rattle.goqlanis_buffers.proofs.segments.of_segments.Goals as goal

pub returns-in_err-push_terminator-clause-causes : goal.returns-in_err-push_terminator-clause-causes
returns-in_err-push_terminator-clause-causes c = λ room.
    let v = c.in_ok-version in
    let segments = c.args.segments.now in
    let reported = c.from_residual-in_err-push_terminator in
    let version = ap (λ (b : BitList). b.version) c.new-bits.ensures.empty in
    let pushed = c.in_ok-push_all.ensures in
    let ends = c.in_err-push_terminator.ensures.ends in
    handed_on reported.result _ (IsSegmentsCause c.args.version c.args.level segments room) reported.ensures
    (ended c.args.version c.args.level v.version v.ec_level segments c.push_all.new.bits _ _ room v.ensures.named (pushed.version ∙ version)
    (pushed.written ∙ ap (λ w. written_segments w segments) version) (subst (λ w. AreTaken w segments (length segments)) version pushed.taken)
    refl ends.accepted ends.refused)
