use Rattle.std.proofs.Common.{arith}
use Rattle.std.proofs.lemmas.Grind.{common_steps}
use Rattle.qrcode_contents.specs.Bill.{bill_text}
use Rattle.qrcode_contents.proofs.bill.Bill.written.Goals as goal

pub returns-clause-value : goal.returns-clause-value
unfolding bill_text
returns-clause-value c = grind (arith, common_steps)
