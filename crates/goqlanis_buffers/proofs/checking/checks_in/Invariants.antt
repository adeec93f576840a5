use Rattle.std.proofs.Common.{take}
use Rattle.goqlanis_buffers.specs.Checking.{AreToldChecks}
use Rattle.goqlanis_buffers.proofs.checking.checks_in.Given as goal

-- the checks so far are converted
abbrev pub invariant-loop-i : goal.invariant-loop-i
invariant-loop-i l = AreToldChecks (take l.i l.fn.checks) l.all.items
