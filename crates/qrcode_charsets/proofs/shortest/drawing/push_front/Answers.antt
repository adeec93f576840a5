use Rattle.std.proofs.Common.{length}
use Rattle.qrcode_charsets.proofs.Marks.{designator_taken}
use Rattle.qrcode_charsets.proofs.shortest.drawing.push_front.Goals as goal

pub returns-in-Some-clause-memory : goal.returns-in-Some-clause-memory
returns-in-Some-clause-memory c =
    let list = c.args.bits.now in
    c.push_eci_designator.ensures.accepted
    (designator_taken c.args.set list.version (length list.bits) c.in-Some.number c.in-Some.ensures.value c.in-Some.ensures.at_most c.requires.exists c.requires.room)
