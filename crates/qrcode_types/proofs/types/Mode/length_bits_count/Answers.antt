use Rattle.qrcode_types.proofs.LengthFields.{counts_fit}
use Rattle.qrcode_types.proofs.types.Mode.length_bits_count.Goals as goal

pub returns-in-Normal-clause-counts : goal.returns-in-Normal-clause-counts
returns-in-Normal-clause-counts c = λ mode. counts_fit mode c.args.version c.requires

pub returns-in-Micro-clause-counts : goal.returns-in-Micro-clause-counts
returns-in-Micro-clause-counts c = λ mode. counts_fit mode c.args.version c.requires
