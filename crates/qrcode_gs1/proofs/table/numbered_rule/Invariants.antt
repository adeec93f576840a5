use Rattle.std.proofs.Common.{◌≡◌, drop}
use Rattle.qrcode_gs1.specs.Refusals.{first_rule}
use Rattle.qrcode_gs1.proofs.table.numbered_rule.Given as goal

abbrev pub invariant-loop-rule : goal.invariant-loop-rule
invariant-loop-rule l = first_rule (drop l.rule-index l.rules) l.number ≡ first_rule l.rules l.number
