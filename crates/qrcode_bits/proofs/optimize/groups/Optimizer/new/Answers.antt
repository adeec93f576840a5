use Rattle.qrcode_bits.proofs.GroupCalls.{new-can, new-groups, new-inside}
use Rattle.qrcode_bits.proofs.optimize.groups.Optimizer.new.Goals as goal

pub returns-clause-can : goal.returns-clause-can
returns-clause-can g c = new-can g.I.Iterator.next_gives _ _ c.args.version _ _ _ c.requires.valid c.requires.finite c.next-last.ensures.steps c.next-last.ensures.goes c.requires.joinable

pub returns-clause-groups : goal.returns-clause-groups
returns-clause-groups g c = new-groups g.I.Iterator.next_gives _ _ _ _ c.next-last.ensures.steps

pub returns-clause-inside : goal.returns-clause-inside
returns-clause-inside g c = new-inside g.I.Iterator.next_gives _ _ _ _ c.next-last.ensures.steps c.requires.joinable
