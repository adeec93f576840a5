use Rattle.std.proofs.Common.{length}
use Rattle.qrcode_append.proofs.Parts.{header_taken}
use Rattle.qrcode_append.proofs.drawing.push_front.Goals as goal

pub returns-clause-memory : goal.returns-clause-memory
returns-clause-memory c =
    c.push_structured_append.ensures.accepted (header_taken c.args.bits.now.version (length c.args.bits.now.bits) c.args.share.place c.args.share.last c.args.share.parity c.requires.normal c.requires.room)
