use Rattle.std.specs.Prelude.{chars, MatchOption}
use Rattle.qrcode_charsets.specs.Laid.{NoneLaid, IsLeastLaid}
use Rattle.qrcode_charsets.proofs.shortest.measuring.measure_least.Given as goal

abbrev pub invariant-loop-set : goal.invariant-loop-set
invariant-loop-set l = MatchOption l.least (NoneLaid l.sets l.version (chars l.text) l.set-index) (IsLeastLaid l.sets l.version (chars l.text) l.set-index)
