use Rattle.std.proofs.Common.{subst, arith}
use Rattle.qrcode_bits.specs.RunsLeft.{runs_left, data_end}
use Rattle.qrcode_bits.specs.Groups.{AreGroups}
use Rattle.qrcode_bits.proofs.Fronts.{parser-joinable, parser-inside, whole}
use Rattle.qrcode_bits.proofs.optimize.runs.Parser.optimize.Goals as goal

pub new-requires-clause-joinable : goal.new-requires-clause-joinable
new-requires-clause-joinable c = parser-joinable c.args.self c.requires.at_most

pub returns-clause-groups : goal.returns-clause-groups
returns-clause-groups c gs d = let h = c.new.ensures.groups gs d in subst (λ xs. AreGroups c.args.version xs gs) (whole runs_left c.args.self h.0 h.1.0) h.1.1

pub returns-clause-inside : goal.returns-clause-inside
returns-clause-inside c = c.new.ensures.inside (data_end c.args.self) (parser-inside c.args.self (data_end c.args.self) (omega arith))
