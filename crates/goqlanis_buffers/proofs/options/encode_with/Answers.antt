use Rattle.std.proofs.Common.{length, refl}
use Rattle.goqlanis_buffers.proofs.Fields.{handed_back}
use Rattle.goqlanis_buffers.proofs.options.encode_with.Goals as goal

pub returns-in_err-asked : goal.returns-in_err-asked
returns-in_err-asked c = handed_back _ _ _ _ _ _ c.from_residual.ensures refl (c.in_err-asked.ensures.causes c.args.bytes.now (length c.args.modules.now))
