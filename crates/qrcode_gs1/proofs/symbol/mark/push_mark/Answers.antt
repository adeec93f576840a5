use Rattle.std.proofs.Common.{length}
use Rattle.qrcode_gs1.proofs.Marks.{first_taken, second_taken}
use Rattle.qrcode_gs1.proofs.symbol.mark.push_mark.Goals as goal

pub returns-in-First-clause-memory : goal.returns-in-First-clause-memory
returns-in-First-clause-memory c =
    c.push_fnc1_first_position.ensures.accepted (first_taken c.args.bits.now.version (length c.args.bits.now.bits) c.requires.normal c.requires.room)

pub returns-in-Second-clause-memory : goal.returns-in-Second-clause-memory
returns-in-Second-clause-memory c =
    c.push_fnc1_second_position.ensures.accepted (second_taken c.args.bits.now.version (length c.args.bits.now.bits) c.in-Second.application c.requires.normal c.requires.room)
