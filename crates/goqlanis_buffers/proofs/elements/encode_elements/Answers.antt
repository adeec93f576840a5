use Rattle.std.proofs.Common.{inr, refl}
use Rattle.goqlanis_buffers.proofs.Fields.{handed_back}
use Rattle.goqlanis_buffers.proofs.elements.encode_elements.Goals as goal

pub returns-in_err-asked : goal.returns-in_err-asked
returns-in_err-asked c = handed_back _ _ _ _ _ _ c.from_residual.ensures refl (inr (inr (inr (λ bytes room. c.in_err-asked.ensures.causes bytes room))))
