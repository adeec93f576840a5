use Rattle.std.proofs.Common.{arith}
use Rattle.std.proofs.lemmas.Grind.{common_steps}
use Rattle.qrcode_contents.specs.Geo.{place_text}
use Rattle.qrcode_contents.proofs.geo.Place.written.Goals as goal

pub returns-clause-value : goal.returns-clause-value
unfolding place_text
returns-clause-value c = grind (arith, common_steps)
