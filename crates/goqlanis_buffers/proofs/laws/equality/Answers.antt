use denote.Enum.Bare.{same_true, true_same}
use Rattle.goqlanis_buffers.specs.contracts.answers.Refusal.{the_type}
use Rattle.goqlanis_buffers.proofs.laws.equality.Goals as goal

pub returns : goal.returns
returns c = λ a b. (same_true the_type tt a b, true_same the_type a b)
