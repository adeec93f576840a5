use Rattle.goqlanis_buffers.proofs.OnePicture.{one_answer}
use Rattle.goqlanis_buffers.proofs.laws.pictures.Goals as goal

pub returns-clause-in_c : goal.returns-clause-in_c
returns-clause-in_c c = one_answer
