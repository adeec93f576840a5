use Rattle.std.proofs.Common.{length, refl}
use Rattle.goqlanis_buffers.proofs.Fields.{handed_back}
use Rattle.goqlanis_buffers.proofs.pictures.put_picture.Goals as goal

pub returns-in_err-format : goal.returns-in_err-format
returns-in_err-format c = handed_back _ _ _ _ _ _ c.from_residual.ensures refl (c.in_err-format.ensures.causes (length c.args.out.now))
