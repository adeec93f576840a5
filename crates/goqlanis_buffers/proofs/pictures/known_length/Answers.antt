use Rattle.std.proofs.Common.{ap, sym, subst, ◌∙◌}
use Rattle.std.specs.Prelude.{IfSome}
use Rattle.std.proofs.lemmas.Result.{IfOk-weaker}
use Rattle.goqlanis_buffers.proofs.BySide.{has_length}
use Rattle.goqlanis_buffers.specs.Asking.{known_length, HasLength}
use Rattle.goqlanis_buffers.proofs.pictures.known_length.Goals as goal

pub returns-clause-length : goal.returns-clause-length
returns-clause-length c =
    let a = c.args.asked.now in
    let f = c.args.format in
    IfOk-weaker c.length_by_side.result _ _
    (λ length is. subst (λ o. IfSome o (HasLength a)) (sym (is ∙ ap (known_length f) c.side_of.ensures.value)) (has_length a f c.requires.drawable))
    c.length_by_side.ensures.value
