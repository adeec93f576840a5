use Rattle.std.specs.Prelude.{chars}
use Rattle.qrcode_charsets.proofs.Ranks.{NoneBefore}
use Rattle.qrcode_charsets.proofs.shortest.choice.choose.Given as goal

abbrev pub invariant-loop-place : goal.invariant-loop-place
invariant-loop-place l = NoneBefore l.sets l.fn.from l.ec_level (chars l.text) l.place
