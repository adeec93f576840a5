use Rattle.goqlanis_buffers.proofs.Reported.{numbered}
use Rattle.goqlanis_buffers.proofs.answers.Refusal.number.Goals as goal

pub returns-clause-value : goal.returns-clause-value
returns-clause-value c = numbered c.args.self
