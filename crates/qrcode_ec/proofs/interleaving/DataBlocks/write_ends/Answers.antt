use Rattle.qrcode_ec.proofs.Bytes.{bytes_from}
use Rattle.qrcode_ec.proofs.interleaving.DataBlocks.write_ends.Goals as goal

pub returns-clause-bytes : goal.returns-clause-bytes
returns-clause-bytes c = bytes_from c.loop-b.codewords c.loop-b.invariant.bytes
