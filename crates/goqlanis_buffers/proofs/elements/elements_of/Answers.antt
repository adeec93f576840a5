use Rattle.std.proofs.Common.{arith, below_more, subst}
use Rattle.std.proofs.lemmas.Grind.{common_steps}
use Rattle.std.proofs.lemmas.Option.{get_or_from_slice_get}
use Rattle.goqlanis_buffers.specs.Elements.{IsText}
use Rattle.goqlanis_buffers.proofs.elements.elements_of.Goals as goal

pub loop-place-preserved : goal.loop-place-preserved
loop-place-preserved c = record {
  made = grind (arith, common_steps);
  texts = below_more _ _ c.loop-place.invariant.texts (λ part at. subst IsText (get_or_from_slice_get c.args.parts.now _ part _ at) c.in-Some.ensures.text);
}
