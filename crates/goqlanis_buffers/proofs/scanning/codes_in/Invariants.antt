use Rattle.std.proofs.Common.{take}
use Rattle.goqlanis_buffers.specs.Scanning.{AreCodesOf}
use Rattle.goqlanis_buffers.proofs.scanning.codes_in.Given as goal

-- the codes so far are converted
abbrev pub invariant-loop-i : goal.invariant-loop-i
invariant-loop-i l = AreCodesOf (take l.i l.fn.scans) l.all.items
