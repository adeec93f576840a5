use Rattle.qrcode_ec.proofs.Lanes.{length-next, next_at}
use Rattle.qrcode_ec.proofs.division.advanced.Goals as goal

pub returns-clause-length : goal.returns-clause-length
returns-clause-length c = length-next c.args.register c.args.multiple c.requires.register c.requires.multiple

pub returns-clause-value : goal.returns-clause-value
returns-clause-value c = next_at c.args.register c.args.multiple c.requires.register c.requires.multiple
