use Rattle.qrcode_charsets.proofs.Marks.{length_some}
use Rattle.qrcode_charsets.proofs.shortest.measuring.front_length.Goals as goal

pub returns-in-Some-clause-value : goal.returns-in-Some-clause-value
returns-in-Some-clause-value c = length_some c.args.set c.in-Some.field-0 c.in-Some.ensures.value
