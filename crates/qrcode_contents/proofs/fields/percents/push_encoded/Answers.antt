use Rattle.qrcode_contents.proofs.PercentReading.{decoded-encoded}
use Rattle.qrcode_contents.proofs.fields.percents.push_encoded.Goals as goal

pub returns-clause-reads : goal.returns-clause-reads
returns-clause-reads c = decoded-encoded c.args.value.now
