use Rattle.std.proofs.Common.{◌≡◌, map, take}
use Rattle.goqlanis_buffers.specs.Tints.{ink_paint, named_paint}
use Rattle.goqlanis_buffers.proofs.tints.inks_of.Given as goal

-- the colours so far are borrowed
abbrev pub invariant-loop-i : goal.invariant-loop-i
invariant-loop-i l = map ink_paint l.inks.items ≡ map named_paint (take l.i l.fn.own)
